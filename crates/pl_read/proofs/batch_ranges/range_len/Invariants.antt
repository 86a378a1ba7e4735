use Rattle.std.proofs.Common.{◌-◌, length}
use Rattle.pl_read.proofs.BatchRangeLaws.{IsUpTo}
use Rattle.pl_read.proofs.batch_ranges.range_len.Given as goal

abbrev pub invariant-loop-len : goal.invariant-loop-len
invariant-loop-len l = IsUpTo l.options l.left l.state l.len

abbrev pub decreases-loop-len : goal.decreases-loop-len
decreases-loop-len l = length l.left - l.len
