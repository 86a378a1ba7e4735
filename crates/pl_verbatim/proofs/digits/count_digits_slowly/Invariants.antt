use Rattle.std.proofs.Common.{◌≡◌, ℕ, ◌-◌, ◌<◌, ◌≤◌, true, length, get_or}
use Rattle.std.specs.Char.{is_ascii_digit}
use Rattle.pl_verbatim.proofs.digits.count_digits_slowly.Given as goal

-- so many digits have been seen
abbrev pub invariant-loop-count : goal.invariant-loop-count
invariant-loop-count l = record {
  inside : l.count ≤ length l.bytes;
  digits : (k : ℕ) → k < l.count → is_ascii_digit (get_or l.bytes k 0) ≡ true;
}

abbrev pub decreases-loop-count : goal.decreases-loop-count
decreases-loop-count l = length l.bytes - l.count
