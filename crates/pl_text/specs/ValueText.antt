-- How values are printed, by their type (docs/types.md, "Printed").
use Rattle.std.specs.Prelude.{ℕ, ◌+◌, ◌-◌, ◌/◌, ◌%◌, ◌^◌, ◌==◌, true, false, if◌then◌else◌, ℤ, pos, unsigned_abs, List, [], ◌∷◌, ◌++◌, length, take, drop, replicate, map, find, Option, None, Some, unwrap_or, codes, decimal}
use Rattle.std.specs.Fmt.{signed_decimal}
use Rattle.std.specs.Int.{int_div_euclid, int_rem_euclid, is_negative}
use Rattle.std.specs.List.{flat_map, range_with_len}
use Rattle.std.specs.Ordering.{int_eq}
use Rattle.jiff_core.specs.Calendar.{days_in_month}
use Rattle.pl_frame.specs.declared.data_type.DataType.{DataType}
use Rattle.pl_frame.specs.declared.data_type.DataType.TheVariants as dtype
use Rattle.pl_frame.specs.declared.data_type.TimeUnit.{TimeUnit}
use Rattle.pl_frame.specs.declared.data_type.TimeUnit.TheVariants as unit
use Rattle.pl_frame.specs.Days.{CivilDate, civil, day_number}
use Rattle.pl_frame.specs.Frame.{Scalar, Truth, Number, Letters}
use Rattle.pl_frame.specs.Types.{units_in_second}

-- decimal digits, filled in front with zeros to at least so many
abbrev pub padded : ℕ → ℕ → List ℕ
padded width n = replicate (width - length (decimal n)) 48 ++ decimal n

-- ---- dates

-- the dates of a month in order
abbrev pub dates_of_month : ℕ → ℕ → List CivilDate
dates_of_month year month = map (civil year month) (range_with_len 1 (days_in_month (pos year) month))

-- the dates of a year in order
abbrev pub dates_of_year : ℕ → List CivilDate
dates_of_year year = flat_map (dates_of_month year) (range_with_len 1 12)

-- the dates of the years 0000 to 9999 in order
unfoldable pub civil_dates : List CivilDate
civil_dates = flat_map dates_of_year (range_with_len 0 10000)

-- the one date with this day number
unfoldable pub date_of : ℤ → Option CivilDate
date_of day = find (λ date. int_eq (day_number date) day) civil_dates

-- YYYY-MM-DD
abbrev pub civil_text : CivilDate → List ℕ
civil_text date = padded 4 date.year ++ 45 ∷ (padded 2 date.month ++ 45 ∷ padded 2 date.day)

-- the date with this day number; of no date the empty text
abbrev pub date_text : ℤ → List ℕ
date_text day = elim (date_of day) [ None ↦ [] | Some date ↦ civil_text date ]

-- ---- times and datetimes

-- HH:MM:SS of a second of the day
abbrev pub clock_text : ℕ → List ℕ
clock_text second = padded 2 (second / 3600) ++ 58 ∷ (padded 2 (second / 60 % 60) ++ 58 ∷ padded 2 (second % 60))

-- a time of so many nanoseconds: the second of the day and nine digits
abbrev pub time_text : ℕ → List ℕ
time_text n = clock_text (n / 10 ^ 9) ++ 46 ∷ padded 9 (n % 10 ^ 9)

-- so many digits write what is less than a second
abbrev pub places_of : TimeUnit → ℕ
places_of unit.Milliseconds = 3
places_of unit.Microseconds = 6
places_of unit.Nanoseconds = 9

-- the day and the second of the day at or below a count of seconds
abbrev pub second_text : ℤ → List ℕ
second_text second = date_text (int_div_euclid second (pos 86400)) ++ 84 ∷ clock_text (unsigned_abs (int_rem_euclid second (pos 86400)))

-- a count of which so many make a second: the second at or below it, and the rest in so many digits
abbrev pub count_text : ℕ → ℕ → ℤ → List ℕ
count_text units places n = second_text (int_div_euclid n (pos units)) ++ 46 ∷ padded places (unsigned_abs (int_rem_euclid n (pos units)))

-- a datetime of so many of its unit
abbrev pub datetime_text : TimeUnit → ℤ → List ℕ
datetime_text unit n = count_text (units_in_second unit) (places_of unit) n

-- ---- decimals

-- the digits of a size, with a point before the last of them
abbrev pub point_text : ℕ → List ℕ → List ℕ
point_text scale digits = take (length digits - scale) digits ++ (if scale == 0 then [] else 46 ∷ drop (length digits - scale) digits)

-- a number of which 10 ^ scale make one: a minus below zero, and the digits of its size, at least one before the point
abbrev pub decimal_text : ℕ → ℤ → List ℕ
decimal_text scale n = (if is_negative n then 45 ∷ [] else []) ++ point_text scale (padded (scale + 1) (unsigned_abs n))

-- ---- values

-- a number of a type
abbrev pub number_text : DataType → ℤ → List ℕ
number_text dtype.Date n = date_text n
number_text dtype.Time n = time_text (unsigned_abs n)
number_text (dtype.Datetime unit) n = datetime_text unit n
number_text (dtype.Decimal precision scale) n = decimal_text (unwrap_or scale 0) n
number_text _ n = signed_decimal n

-- the printed text of a value of a type
abbrev pub printed : DataType → Scalar → List ℕ
printed type (Truth true) = codes "true"
printed type (Truth false) = codes "false"
printed type (Number n) = number_text type n
printed type (Letters text) = text
