use Rattle.std.proofs.Common.{length}
use Rattle.pl_rows.specs.Plan.{states}
use Rattle.pl_rows.specs.Blocks.{HasReadRows}
use Rattle.pl_rows.proofs.range.read_counted.Given as goal

abbrev pub invariant-loop-rest : goal.invariant-loop-rest
invariant-loop-rest l = HasReadRows l.plan l.range (states l.fn.buffers) (states l.buffers) l.rest l.row

abbrev pub decreases-loop-rest : goal.decreases-loop-rest
decreases-loop-rest l = length l.rest
