use Rattle.std.proofs.Common.{length, ◌-◌}
use Rattle.pl_tell.proofs.wording.meaningless_unit.Given as goal

abbrev pub decreases-loop-start : goal.decreases-loop-start
decreases-loop-start l = length l.words - l.start
