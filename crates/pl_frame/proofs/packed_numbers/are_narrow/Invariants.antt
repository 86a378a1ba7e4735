use Rattle.std.proofs.Common.{ℕ, pos, negsuc, ◌<◌, ◌≤ℤ◌, ◌-◌, ◌^◌, get_or}
use Rattle.std.specs.Prelude.{neg_ℤ}
use Rattle.pl_frame.proofs.packed_numbers.are_narrow.Given as goal

abbrev pub invariant-loop-number : goal.invariant-loop-number
invariant-loop-number l = (k : ℕ) → k < l.number-index → (neg_ℤ (pos (2 ^ 63)) ≤ℤ get_or l.numbers k (pos 0)) × (get_or l.numbers k (pos 0) ≤ℤ pos (2 ^ 63 - 1))
