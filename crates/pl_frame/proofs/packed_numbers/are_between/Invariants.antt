use Rattle.std.proofs.Common.{ℕ, pos, ◌<◌, ◌≤ℤ◌, get_or}
use Rattle.pl_frame.proofs.packed_numbers.are_between.Given as goal

abbrev pub invariant-loop-number : goal.invariant-loop-number
invariant-loop-number l = (k : ℕ) → k < l.number-index → (l.low ≤ℤ get_or l.numbers k (pos 0)) × (get_or l.numbers k (pos 0) ≤ℤ l.high)
