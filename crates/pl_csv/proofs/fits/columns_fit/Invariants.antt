use Rattle.std.proofs.Common.{length}
use Rattle.std.specs.Prelude.{◌↔◌}
use Rattle.std.specs.List.{AllByRecursion}
use Rattle.pl_write.specs.Options.{frame_options}
use Rattle.pl_round_trip.specs.Fits.{FitsColumn}
use Rattle.pl_csv.proofs.fits.columns_fit.Given as goal

abbrev pub invariant-loop-rest : goal.invariant-loop-rest
invariant-loop-rest l = AllByRecursion (FitsColumn (frame_options l.options)) l.columns ↔ AllByRecursion (FitsColumn (frame_options l.options)) l.rest

abbrev pub decreases-loop-rest : goal.decreases-loop-rest
decreases-loop-rest l = length l.rest
