use Rattle.std.proofs.Common.{List, map, sym, ◌∙◌, ap, subst}
use Rattle.std.specs.List.{AllByRecursion}
use Rattle.pl_frame.specs.Frame.{ColumnValue, height_of, names_of}
use Rattle.pl_cells.specs.CastPlaces.{placed_cast, with_all_placed, FitsAt}
use Rattle.pl_cells.proofs.CastLaws.{cast_frame, casts_fit}
use Rattle.pl_cells.proofs.casts.cast_columns.Goals as goal

pub place_all-requires : goal.place_all-requires
place_all-requires g c =
    let df = c.args.df.now in
    let fields = c.args.to_cast.now in
    subst (AllByRecursion (FitsAt (names_of df) (height_of df))) (sym (c.in_ok-casts.ensures.made ∙ ap (λ (k : List ColumnValue). map (placed_cast k) fields) c.columns.ensures.columns))
    (casts_fit df fields c.columns.ensures.frame.one_height)

pub returns-clause-cast : goal.returns-clause-cast
returns-clause-cast g c =
    let df = c.args.df.now in
    let fields = c.args.to_cast.now in
    c.place_all.ensures ∙ ap (λ l. with_all_placed l df) (c.in_ok-casts.ensures.made ∙ ap (λ (k : List ColumnValue). map (placed_cast k) fields) c.columns.ensures.columns)
    ∙ cast_frame df fields c.columns.ensures.frame
