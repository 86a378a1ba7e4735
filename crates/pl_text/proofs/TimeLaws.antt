-- The day and the second of a count.
use Rattle.std.proofs.Common.{◌≡◌, ℕ, ◌*◌, ◌/◌, ◌<◌, true, ℤ, pos, negsuc, arith}
use Rattle.std.proofs.Math.Nat.{div-lt_iff_lt-mul}
use Rattle.std.specs.Int.{int_div_euclid}
use Rattle.jiff_core.proofs.SignedLemmas.{signed_arith}
use Rattle.pl_frame.specs.Types.{is_within, day_range, datetime_range}

-- a quotient is small where the number is
quotient : (a k units : ℕ) → 0 < units → a < k * units → a / units < k
quotient a k units some small = (div-lt_iff_lt-mul some).1 small

-- the day of a datetime lies in the range of days
pub day_of_count : (units : ℕ) (n : ℤ) → 0 < units → is_within (datetime_range units) n ≡ true → is_within day_range (int_div_euclid (int_div_euclid n (pos units)) (pos 86400)) ≡ true
day_of_count units (pos a) some within =
    let high : a < 2932897 * 86400 * units = grind (arith, signed_arith, within, some) in
    let seconds : a / units < 2932897 * 86400 = quotient a (2932897 * 86400) units some high in
    grind (arith, signed_arith, seconds)
day_of_count units (negsuc a) some within =
    let low : a < 719528 * 86400 * units = grind (arith, signed_arith, within, some) in
    let seconds : a / units < 719528 * 86400 = quotient a (719528 * 86400) units some low in
    grind (arith, signed_arith, seconds)
