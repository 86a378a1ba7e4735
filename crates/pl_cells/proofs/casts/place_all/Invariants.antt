use Rattle.std.proofs.Common.{◌≡◌, length}
use Rattle.std.specs.List.{AllByRecursion}
use Rattle.pl_frame.specs.Frame.{height_of, names_of}
use Rattle.pl_cells.specs.CastPlaces.{with_all_placed, FitsAt}
use Rattle.pl_cells.proofs.casts.place_all.Given as goal

abbrev pub invariant-loop-cast : goal.invariant-loop-cast
invariant-loop-cast l = record {
  placed : with_all_placed l.rest.items l.df ≡ with_all_placed l.initial.rest.items l.initial.df;
  fit : AllByRecursion (FitsAt (names_of l.df) (height_of l.df)) l.rest.items;
}

abbrev pub decreases-loop-cast : goal.decreases-loop-cast
decreases-loop-cast l = length l.rest.items
