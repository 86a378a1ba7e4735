use Rattle.std.proofs.Common.{length}
use Rattle.std.specs.Prelude.{◌↔◌}
use Rattle.pl_frame.specs.Frame.{HaveHeight}
use Rattle.pl_frame.proofs.frame.have_height.Given as goal

abbrev pub invariant-loop-rest : goal.invariant-loop-rest
invariant-loop-rest l = HaveHeight l.height l.columns ↔ HaveHeight l.height l.rest

abbrev pub decreases-loop-rest : goal.decreases-loop-rest
decreases-loop-rest l = length l.rest
