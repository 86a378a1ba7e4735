use Rattle.std.proofs.Common.{◌≤◌, ◌-◌, length}
use Rattle.pl_regions.proofs.ranges.range_len.Given as goal

abbrev pub invariant-loop-len : goal.invariant-loop-len
invariant-loop-len l = l.len ≤ length l.left

abbrev pub decreases-loop-len : goal.decreases-loop-len
decreases-loop-len l = length l.left - l.len
