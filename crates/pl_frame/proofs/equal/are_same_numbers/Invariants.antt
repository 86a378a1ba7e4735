use Rattle.std.proofs.Common.{◌≡◌, ℕ, ◌<◌, true, get_or, None}
use Rattle.std.specs.Option.{option_eq}
use Rattle.std.specs.Ordering.{int_eq}
use Rattle.pl_frame.proofs.equal.are_same_numbers.Given as goal

abbrev pub invariant-loop-row : goal.invariant-loop-row
invariant-loop-row l = (k : ℕ) → k < l.row → option_eq int_eq (get_or l.a k None) (get_or l.b k None) ≡ true
