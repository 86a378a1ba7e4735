-- The nanoseconds of a fraction, and the counts of units.
use Rattle.std.proofs.Common.{◌≡◌, ℕ, ◌-◌, ◌*◌, ◌^◌, ◌<◌, ◌≤◌, true, List, ◌∷◌, length, Some, ℤ, rules, sym, ap, arith}
use Rattle.std.proofs.lemmas.Bool.Decides.{nat_tests}
use Rattle.std.specs.Prelude.{nat_le}
use Rattle.pl_cells.specs.Integers.{number_below}
use Rattle.pl_frame.specs.declared.data_type.TimeUnit.{TimeUnit}
use Rattle.pl_frame.specs.declared.data_type.TimeUnit.TheVariants as unit
use Rattle.pl_frame.specs.Types.{units_in_second, is_within, day_range, datetime_range}
use Rattle.jiff_core.proofs.SignedLemmas.{signed_arith}
use Rattle.pl_cells.specs.Times.{fraction_value, count_of_units}
use Rattle.pl_cells.proofs.IntegerLaws.{number_of-filled, number_of-filled-small, number_below-tells, all_ascii_digits-is}

pub fraction_value-is : (digits : List ℕ) (n p : ℕ) → length digits ≤ 9 → Some n ≡ number_below (2 ^ 64) digits → p ≡ 10 ^ (9 - length digits) → Some (n * p) ≡ fraction_value (46 ∷ digits)
fraction_value-is digits n p few is power =
    let told = number_below-tells (2 ^ 64) digits n is in
    let short : nat_le (length digits) 9 ≡ true = grind (arith, nat_tests) in
    rw (told.0, short) (ap Some (rw (told.1, power) (sym (number_of-filled digits 9 few))))

pub fraction-small : (digits : List ℕ) (n p : ℕ) → length digits ≤ 9 → Some n ≡ number_below (2 ^ 64) digits → p ≡ 10 ^ (9 - length digits) → n * p < 10 ^ 9
fraction-small digits n p few is power =
    let told = number_below-tells (2 ^ 64) digits n is in
    rw (told.1, power) (number_of-filled-small digits 9 few (all_ascii_digits-is digits told.0))

-- a day and its nanoseconds count within the years of the days
pub count-within : (unit : TimeUnit) (day : ℤ) (n : ℕ) (count : ℤ) → count ≡ count_of_units (units_in_second unit) day n → is_within day_range day ≡ true → n < 86400 * 10 ^ 9
    → is_within (datetime_range (units_in_second unit)) count ≡ true
count-within unit.Milliseconds day n count is days small = first_of (search rules, grind (arith, signed_arith, is, days, small, nat_tests))
count-within unit.Microseconds day n count is days small = first_of (search rules, grind (arith, signed_arith, is, days, small, nat_tests))
count-within unit.Nanoseconds day n count is days small = first_of (search rules, grind (arith, signed_arith, is, days, small, nat_tests))
