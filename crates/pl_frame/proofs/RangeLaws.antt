-- Laws of ranges.
use Rattle.std.proofs.Common.{◌≡◌, ℕ, ◌^◌, ◌≤◌, pos, arith}
use Rattle.std.specs.Prelude.{neg_ℤ, ◌-ℤ◌}
use Rattle.std.proofs.Math.Nat.{pow-le-pow_right, one-le-pow}

pub from_zero : (m : ℕ) → pos 0 -ℤ pos m ≡ neg_ℤ (pos m)
from_zero m = grind arith

pub power_bound : (n : ℕ) → n ≤ 38 → 10 ^ n ≤ 10 ^ 38
power_bound n h = pow-le-pow_right (omega arith) h

pub power_positive : (n : ℕ) → 1 ≤ 10 ^ n
power_positive n = one-le-pow n 10 (omega arith)
