-- The day number of a date that the calendar has.
use Rattle.std.proofs.Common.{◌≡◌, ℕ, zero, suc, ◌≤◌, ℤ, pos, true, Some, refl, ap, arith, nat_le, ◌&&◌}
use Rattle.std.proofs.lemmas.Bool.Decides.{nat_tests}
use Rattle.std.specs.Int.{IsInRange}
use Rattle.jiff_core.proofs.CalendarLemmas.{day_count_bounds, day_count-later_year, day_count-day_of_year}
use Rattle.jiff_core.proofs.MarchLemmas.{day_count-early}
use Rattle.jiff_core.proofs.SignedLemmas.{signed_arith}
use Rattle.pl_frame.specs.Types.{is_within, day_range}
use Rattle.jiff_core.specs.Calendar.{IsCivilDate, day_count, days_in_month, days_from_civil}
use Rattle.pl_cells.specs.Dates.{is_civil_date, number_of_day}

is_civil_date-is : (y m d : ℕ) → IsInRange 1 12 m → IsInRange 1 (days_in_month (pos y) m) d → is_civil_date y m d ≡ true
is_civil_date-is y m d month day = by_days (days_in_month (pos y) m) day
  where
    by_days : (last : ℕ) → IsInRange 1 last d → (nat_le 1 m && nat_le m 12) && (nat_le 1 d && nat_le d last) ≡ true
    by_days last h = grind (arith, nat_tests)

pub number_of_day-is : (y m d : ℕ) (z : ℤ) → IsInRange 1 12 m → IsInRange 1 (days_in_month (pos y) m) d → z ≡ days_from_civil (pos y) m d → Some z ≡ number_of_day (Some y) (Some m) (Some d)
number_of_day-is y m d z month day is = rw (is_civil_date-is y m d month day) (ap Some is)

pub number_of_day-at : (y m d : ℕ) (year : ℤ) (month day : ℕ) (z : ℤ) → year ≡ pos y → month ≡ m → day ≡ d
    → IsInRange 1 12 month → IsInRange 1 (days_in_month year month) day → z ≡ days_from_civil year month day → Some z ≡ number_of_day (Some y) (Some m) (Some d)
number_of_day-at y m d year month day z is_year is_month is_day in_year in_month is =
    let months : IsInRange 1 12 m = rw is_month at in_year in
    let days : IsInRange 1 (days_in_month (pos y) m) d = rw (is_year, is_month, is_day) at in_month in
    let number : z ≡ days_from_civil (pos y) m d = rw (is_year, is_month, is_day) at is in
    number_of_day-is y m d z months days number

-- ---- the days of the years 0000 to 9999

first_day : day_count (pos 0) 1 1 ≡ 3652425
first_day = day_count-early (pos 0) 9999 1 1 refl (omega arith) (omega arith) (omega arith)

epoch : day_count (pos 1970) 1 1 ≡ 4371953
epoch = day_count-early (pos 1970) 11969 1 1 refl (omega arith) (omega arith) (omega arith)

from_first_day : (y m d : ℕ) → IsCivilDate (pos y) m d → 3652425 ≤ day_count (pos y) m d
from_first_day zero m d h = omega (arith, first_day, day_count-day_of_year (pos 0) m d h.2.0)
from_first_day (suc y) m d h = omega (arith, first_day, day_count-later_year (pos 0) (pos (suc y)) (omega (arith, signed_arith)) (omega (arith, signed_arith)), day_count-day_of_year (pos (suc y)) m d h.2.0)

pub day-within : (y m d : ℕ) (z : ℤ) → IsCivilDate (pos y) m d → z ≡ days_from_civil (pos y) m d → is_within day_range z ≡ true
unfolding days_from_civil
day-within y m d z h is =
    let low = from_first_day y m d h in
    let high = (day_count_bounds (pos y) m d h).1 in
    grind (arith, signed_arith, epoch, is, low, high)

pub day-within-at : (y : ℕ) (year : ℤ) (m d : ℕ) (z : ℤ) → year ≡ pos y → IsCivilDate year m d → z ≡ days_from_civil year m d → is_within day_range z ≡ true
day-within-at y year m d z e h is = day-within y m d z (rw e at h) (rw e at is)
