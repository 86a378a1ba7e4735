use Rattle.std.proofs.Common.{List, sym, ◌∙◌, ap, subst, ℕ}
use Rattle.std.specs.List.{AllByRecursion}
use Rattle.pl_frame.specs.Frame.{height_of, names_of}
use Rattle.pl_cells.specs.CastPlaces.{with_all_placed, FitsAt}
use Rattle.pl_cells.proofs.CastLaws.{placed_last, all_front}
use Rattle.pl_cells.proofs.casts.place_all.Goals as goal

pub loop-cast-preserved : goal.loop-cast-preserved
loop-cast-preserved c =
    let rest = c.pop.new.self.items in
    let df = c.loop-cast.df in
    let front = all_front (FitsAt (names_of df) (height_of df)) rest c.in-Some.cast (subst (AllByRecursion (FitsAt (names_of df) (height_of df))) c.in-Some.ensures.items c.loop-cast.invariant.fit) in
    record {
      placed =
          ap (with_all_placed rest) c.place.ensures.placed ∙ sym (placed_last rest c.in-Some.cast df) ∙ ap (λ l. with_all_placed l df) (sym c.in-Some.ensures.items) ∙ c.loop-cast.invariant.placed;
      fit =
          subst (λ (n : List (List ℕ)). AllByRecursion (FitsAt n (height_of c.place.new.df)) rest) (sym c.place.ensures.names)
          (subst (λ (h : ℕ). AllByRecursion (FitsAt (names_of df) h) rest) (sym c.place.ensures.rows) front.0);
    }
