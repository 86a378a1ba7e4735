use Rattle.std.proofs.Common.{◌≡◌, ◌++◌, drop}
use Rattle.pl_board.specs.Ranges.{range_ends}
use Rattle.pl_board.proofs.ranges.range_ends.Given as goal

abbrev pub invariant-loop-number : goal.invariant-loop-number
invariant-loop-number l = l.kept.items ++ range_ends (drop l.number l.ends) (drop l.number l.states) ≡ range_ends l.ends l.states
