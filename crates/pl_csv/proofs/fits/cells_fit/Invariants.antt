use Rattle.std.proofs.Common.{◌≡◌, drop}
use Rattle.std.specs.Prelude.{◌↔◌}
use Rattle.std.specs.List.{AllByRecursion}
use Rattle.pl_write.specs.Options.{frame_options}
use Rattle.pl_write.specs.Serializing.{left_of}
use Rattle.pl_round_trip.specs.Fits.{FitsCell}
use Rattle.pl_csv.proofs.fits.cells_fit.Given as goal

abbrev pub invariant-loop-row : goal.invariant-loop-row
invariant-loop-row l = record {
  left : left_of l.left ≡ record { dtype = l.column.dtype; cells = drop l.row l.column.values };
  unwritten : left_of l.unwritten ≡ record { dtype = l.column.dtype; cells = drop l.row l.column.values };
  all : AllByRecursion (FitsCell (frame_options l.options) l.column.dtype) l.column.values ↔ AllByRecursion (FitsCell (frame_options l.options) l.column.dtype) (drop l.row l.column.values);
}
