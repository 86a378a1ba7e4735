use Rattle.std.proofs.Common.{◌≡◌, ℕ, ◌<◌, ◌≤◌, length, get_or}
use Rattle.pl_scan.proofs.spots.padded.Given as goal

abbrev pub invariant-loop-place : goal.invariant-loop-place
invariant-loop-place l = record {
  len : length l.block ≡ 64;
  tail : (i : ℕ) → i < l.place → get_or l.block i 0 ≡ get_or l.tail i 0;
  behind : (i : ℕ) → l.place ≤ i → i < 64 → get_or l.block i 0 ≡ l.eol_char;
}
