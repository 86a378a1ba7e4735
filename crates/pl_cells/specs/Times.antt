-- The time of day, and the date and time, of a text (docs/types.md, "Times", "Datetimes").
use Rattle.std.specs.Prelude.{ℕ, ℤ, pos, ◌+◌, ◌-◌, ◌*◌, ◌/◌, ◌^◌, ◌+ℤ◌, ◌*ℤ◌, ◌&&◌, ◌||◌, ◌==◌, nat_lt, nat_le, if◌then◌else◌, List, [], ◌∷◌, ◌++◌, length, take, drop, replicate, Option, None, Some}
use Rattle.pl_frame.specs.declared.data_type.TimeUnit.{TimeUnit}
use Rattle.pl_frame.specs.Types.{signed_range, units_in_second}
use Rattle.pl_cells.specs.Integers.{is_digits, number_of, digits_value, only_within}
use Rattle.pl_cells.specs.Dates.{part, has_at, date_value}

-- the seconds of the day
abbrev pub second_of_day : Option ℕ → Option ℕ → Option ℕ → Option ℕ
second_of_day (Some hour) (Some minute) (Some second) =
    if nat_lt hour 24 && (nat_lt minute 60 && nat_lt second 60) then Some (hour * 3600 + minute * 60 + second) else None
second_of_day _ _ _ = None

-- `HH:MM:SS`
abbrev pub clock_value : List ℕ → Option ℕ
clock_value text =
    if length text == 8 && (has_at 2 58 text && has_at 5 58 text)
    then second_of_day (digits_value (part 0 2 text)) (digits_value (part 3 2 text)) (digits_value (part 6 2 text))
    else None

-- the first so many digits, with zeros behind them where there are fewer
abbrev pub filled : ℕ → List ℕ → List ℕ
filled count digits = take count digits ++ replicate (count - length digits) 48

-- nothing, or a point and 1 to 9 digits: the nanoseconds of the second
abbrev pub fraction_value : List ℕ → Option ℕ
fraction_value [] = Some 0
fraction_value (x ∷ digits) =
    if x == 46 && (is_digits digits && nat_le (length digits) 9) then Some (number_of (filled 9 digits)) else None

-- the seconds and the nanoseconds of the second, in nanoseconds
abbrev pub in_nanoseconds : Option ℕ → Option ℕ → Option ℕ
in_nanoseconds (Some seconds) (Some nanoseconds) = Some (seconds * 10 ^ 9 + nanoseconds)
in_nanoseconds _ _ = None

-- `HH:MM:SS`, and a fraction or none: the nanoseconds of the day
abbrev pub time_value : List ℕ → Option ℕ
time_value text = in_nanoseconds (clock_value (take 8 text)) (fraction_value (drop 8 text))

-- the units of a date and of the nanoseconds of its day, of which so many make a second; what is less than a unit is cut
abbrev pub count_of_units : ℕ → ℤ → ℕ → ℤ
count_of_units units day nanoseconds = (day *ℤ pos (86400 * units)) +ℤ pos (nanoseconds / (10 ^ 9 / units))

-- the count of units, where it fits 64 bits
abbrev pub datetime_of : ℕ → Option ℤ → Option ℕ → Option ℤ
datetime_of units (Some day) (Some nanoseconds) = only_within (signed_range 64) (count_of_units units day nanoseconds)
datetime_of units _ _ = None

-- a date, `T` or a space, and a time
abbrev pub datetime_value : TimeUnit → List ℕ → Option ℤ
datetime_value unit text =
    if has_at 10 84 text || has_at 10 32 text
    then datetime_of (units_in_second unit) (date_value (take 10 text)) (time_value (drop 11 text))
    else None
