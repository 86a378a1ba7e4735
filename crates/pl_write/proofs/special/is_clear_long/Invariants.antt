use Rattle.std.proofs.Common.{◌-◌, ◌≤◌, length}
use Rattle.pl_write.specs.Special.{HasNoSpecial}
use Rattle.pl_write.proofs.special.is_clear_long.Given as goal

abbrev pub invariant-loop-at : goal.invariant-loop-at
invariant-loop-at l = (l.at ≤ length l.text) × HasNoSpecial l.separator l.quote l.text 0 l.at

abbrev pub decreases-loop-at : goal.decreases-loop-at
decreases-loop-at l = length l.text - l.at
