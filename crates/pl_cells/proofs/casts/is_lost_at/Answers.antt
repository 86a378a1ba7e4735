use Rattle.std.proofs.Common.{◌≡◌, ◌&&◌, is_some, is_none, length, ◌∙◌, ap, arith}
use Rattle.std.proofs.lemmas.List.{length-map}
use Rattle.pl_frame.specs.Frame.{ColumnValue, cell_at}
use Rattle.pl_cells.specs.Casts.{carried_cell}
use Rattle.pl_cells.proofs.CastLaws.{cell_cast}
use Rattle.pl_cells.proofs.casts.is_lost_at.Goals as goal

pub get-requires-2 : goal.get-requires-2
get-requires-2 c =
    let same : length c.args.cast.now.values ≡ length c.args.column.now.values =
    ap (λ (k : ColumnValue). length k.values) c.requires.cast ∙ length-map c.args.column.now.values (carried_cell c.args.column.now.dtype c.args.cast.now.dtype) in
    let l = c.requires.row in omega (arith, same, l)

pub returns : goal.returns
returns c =
    let after = c.get-2.ensures ∙ ap (λ (k : ColumnValue). cell_at k c.args.row) c.requires.cast ∙ cell_cast (carried_cell c.args.column.now.dtype c.args.cast.now.dtype) c.args.column.now.values c.args.row c.requires.row in
    c.is_lost.ensures ∙ (λ j. is_some (c.get.ensures j) && is_none (after j))
