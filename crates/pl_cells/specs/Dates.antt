-- The day of a text (docs/types.md, "Dates").
use Rattle.std.specs.Prelude.{ℕ, ℤ, pos, Bool, ◌&&◌, ◌==◌, nat_le, if◌then◌else◌, List, length, take, drop, get_or, Option, None, Some}
use Rattle.jiff_core.specs.Calendar.{days_in_month}
use Rattle.pl_frame.specs.Days.{civil, day_number}
use Rattle.pl_cells.specs.Integers.{digits_value}

-- so many bytes of a text from a place on
abbrev pub part : ℕ → ℕ → List ℕ → List ℕ
part start count text = take count (drop start text)

-- the byte stands at the place
abbrev pub has_at : ℕ → ℕ → List ℕ → Bool
has_at place byte text = get_or text place 0 == byte

-- the calendar has this day
abbrev pub is_civil_date : ℕ → ℕ → ℕ → Bool
is_civil_date year month day = (nat_le 1 month && nat_le month 12) && (nat_le 1 day && nat_le day (days_in_month (pos year) month))

-- the days from 1970-01-01 to the day, where the calendar has it
abbrev pub number_of_day : Option ℕ → Option ℕ → Option ℕ → Option ℤ
number_of_day (Some year) (Some month) (Some day) =
    if is_civil_date year month day then Some (day_number (civil year month day)) else None
number_of_day _ _ _ = None

-- `YYYY-MM-DD`: digits and two hyphens
abbrev pub date_value : List ℕ → Option ℤ
date_value text =
    if length text == 10 && (has_at 4 45 text && has_at 7 45 text)
    then number_of_day (digits_value (part 0 4 text)) (digits_value (part 5 2 text)) (digits_value (part 8 2 text))
    else None
