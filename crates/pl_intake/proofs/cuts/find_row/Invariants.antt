use Rattle.std.proofs.Common.{◌≤◌, ◌-◌}
use Rattle.pl_intake.proofs.cuts.find_row.Given as goal

abbrev pub invariant-loop-at : goal.invariant-loop-at
invariant-loop-at l = l.from ≤ l.at

abbrev pub decreases-loop-at : goal.decreases-loop-at
decreases-loop-at l = l.to - l.at
