use Rattle.std.proofs.Common.{◌-◌, ◌≤◌, length}
use Rattle.pl_cells.specs.Lacks.{LacksBetween}
use Rattle.pl_cells.proofs.lacks.lacks_long.Given as goal

abbrev pub invariant-loop-at : goal.invariant-loop-at
invariant-loop-at l = (l.at ≤ length l.text) × LacksBetween l.byte l.text 0 l.at

abbrev pub decreases-loop-at : goal.decreases-loop-at
decreases-loop-at l = length l.text - l.at
