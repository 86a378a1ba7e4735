use Rattle.std.proofs.Common.{length}
use Rattle.std.specs.Prelude.{◌↔◌}
use Rattle.std.specs.List.{AllByRecursion}
use Rattle.pl_frame.specs.Frame.{names_of}
use Rattle.pl_write.specs.Options.{frame_options}
use Rattle.pl_round_trip.specs.Fits.{FitsName}
use Rattle.pl_csv.proofs.fits.are_bare.Given as goal

abbrev pub invariant-loop-rest : goal.invariant-loop-rest
invariant-loop-rest l = AllByRecursion (FitsName (frame_options l.options)) (names_of l.columns) ↔ AllByRecursion (FitsName (frame_options l.options)) (names_of l.rest)

abbrev pub decreases-loop-rest : goal.decreases-loop-rest
decreases-loop-rest l = length l.rest
