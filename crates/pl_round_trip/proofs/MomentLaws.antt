-- Datetimes that are printed and read.
use Rattle.std.proofs.Common.{◌≡◌, ℕ, ◌+◌, ◌-◌, ◌*◌, ◌^◌, ◌<◌, true, List, ◌∷◌, ◌++◌, length, take, drop, get_or, Some, ℤ, pos, negsuc, unsigned_abs, refl, ◌∙◌, ap, arith, append_assoc}
use Rattle.std.specs.Int.{int_div_euclid, int_rem_euclid}
use Rattle.std.specs.Option.{option_map}
use Rattle.jiff_core.proofs.SignedLemmas.{signed_arith}
use Rattle.pl_frame.specs.declared.data_type.DataType.TheVariants as dtype
use Rattle.pl_frame.specs.declared.data_type.TimeUnit.{TimeUnit}
use Rattle.pl_frame.specs.declared.data_type.TimeUnit.TheVariants as unit
use Rattle.pl_frame.specs.Columns.{is_value_of}
use Rattle.pl_frame.specs.Frame.{Number}
use Rattle.pl_text.specs.ValueText.{padded, places_of, date_text, clock_text, datetime_text}
use Rattle.pl_frame.specs.Types.{is_within, datetime_range, signed_range, units_in_second}
use Rattle.pl_cells.specs.Integers.{only_within}
use Rattle.pl_cells.specs.Dates.{date_value}
use Rattle.pl_cells.specs.Times.{time_value, count_of_units, datetime_of, datetime_value}
use Rattle.pl_text.proofs.TimeLaws.{day_of_count}
use Rattle.pl_round_trip.specs.RoundTrip.{Returns}
use Rattle.pl_round_trip.proofs.ClockLaws.{time-returns}
use Rattle.pl_round_trip.proofs.DayLaws.{date-length, date-returns}
use Rattle.pl_round_trip.proofs.PartLaws.{take-front, drop-front_one, at-front}

-- ---- the parts of a count

pub rest_small : (units : ℕ) (n : ℤ) → 0 < units → unsigned_abs (int_rem_euclid n (pos units)) < units
rest_small units (pos a) some = omega (arith, some)
rest_small units (negsuc a) some = omega (arith, some)

abbrev pub second : ℕ → ℤ → ℤ
second units n = int_div_euclid n (pos units)

abbrev pub rest : ℕ → ℤ → ℕ
rest units n = unsigned_abs (int_rem_euclid n (pos units))

abbrev pub day : ℕ → ℤ → ℤ
day units n = int_div_euclid (second units n) (pos 86400)

abbrev pub of_day : ℕ → ℤ → ℕ
of_day units n = rest 86400 (second units n)

milliseconds : (n : ℤ) → count_of_units 1000 (day 1000 n) (of_day 1000 n * 10 ^ 9 + rest 1000 n * 1000000) ≡ n
milliseconds (pos a) = omega (arith, signed_arith)
milliseconds (negsuc a) = omega (arith, signed_arith)

microseconds : (n : ℤ) → count_of_units 1000000 (day 1000000 n) (of_day 1000000 n * 10 ^ 9 + rest 1000000 n * 1000) ≡ n
microseconds (pos a) = omega (arith, signed_arith)
microseconds (negsuc a) = omega (arith, signed_arith)

nanoseconds : (n : ℤ) → count_of_units 1000000000 (day 1000000000 n) (of_day 1000000000 n * 10 ^ 9 + rest 1000000000 n * 1) ≡ n
nanoseconds (pos a) = omega (arith, signed_arith)
nanoseconds (negsuc a) = omega (arith, signed_arith)

-- the day and the nanoseconds of a count make it
count-is : (unit : TimeUnit) (n : ℤ) → count_of_units (units_in_second unit) (day (units_in_second unit) n) (of_day (units_in_second unit) n * 10 ^ 9 + rest (units_in_second unit) n * 10 ^ (9 - places_of unit)) ≡ n
count-is unit.Milliseconds n = milliseconds n
count-is unit.Microseconds n = microseconds n
count-is unit.Nanoseconds n = nanoseconds n

-- ---- the text

-- `T` behind ten bytes
marked : (unit : TimeUnit) (text : List ℕ) → get_or text 10 0 ≡ 84 → datetime_value unit text ≡ datetime_of (units_in_second unit) (date_value (take 10 text)) (time_value (drop 11 text))
marked unit text e = rw e refl

moment_parts : (unit : TimeUnit) (date time : List ℕ) (day : ℤ) (nanoseconds : ℕ) → length date ≡ 10 → date_value date ≡ Some day → time_value time ≡ Some nanoseconds
    → datetime_value unit (date ++ 84 ∷ time) ≡ only_within (signed_range 64) (count_of_units (units_in_second unit) day nanoseconds)
moment_parts unit date time day nanoseconds long e h =
    marked unit (date ++ 84 ∷ time) (at-front 10 date 84 time long)
    ∙ ap (λ l. datetime_of (units_in_second unit) (date_value l) (time_value (drop 11 (date ++ 84 ∷ time)))) (take-front 10 date (84 ∷ time) long)
    ∙ ap (λ l. datetime_of (units_in_second unit) (date_value date) (time_value l)) (drop-front_one 10 date 84 time long)
    ∙ ap (λ o. datetime_of (units_in_second unit) o (time_value time)) e
    ∙ ap (λ o. datetime_of (units_in_second unit) (Some day) o) h

within : (n : ℤ) → is_within (signed_range 64) n ≡ true → only_within (signed_range 64) n ≡ Some n
within n h = rw h refl

pub some_units : (unit : TimeUnit) → 0 < units_in_second unit
some_units unit.Milliseconds = omega arith
some_units unit.Microseconds = omega arith
some_units unit.Nanoseconds = omega arith

time-is : (unit : TimeUnit) (s r : ℕ) → s < 86400 → r < units_in_second unit
    → time_value (clock_text s ++ 46 ∷ padded (places_of unit) r) ≡ Some (s * 10 ^ 9 + r * 10 ^ (9 - places_of unit))
time-is unit.Milliseconds s r day small = time-returns s 3 r day (omega arith) (omega arith) small (omega (arith, small))
time-is unit.Microseconds s r day small = time-returns s 6 r day (omega arith) (omega arith) small (omega (arith, small))
time-is unit.Nanoseconds s r day small = time-returns s 9 r day (omega arith) (omega arith) small (omega (arith, small))

moment : (unit : TimeUnit) (n : ℤ) → is_within (datetime_range (units_in_second unit)) n ≡ true → is_within (signed_range 64) n ≡ true → datetime_value unit (datetime_text unit n) ≡ Some n
moment unit n h fits =
    let u = units_in_second unit in
    let in_days = day_of_count u n (some_units unit) h in
    let date = date_text (day u n) in
    let clock = clock_text (of_day u n) in
    let fraction = padded (places_of unit) (rest u n) in
    ap (datetime_value unit) (append_assoc date (84 ∷ clock) (46 ∷ fraction))
    ∙ moment_parts unit date (clock ++ 46 ∷ fraction) (day u n) (of_day u n * 10 ^ 9 + rest u n * 10 ^ (9 - places_of unit))
    (date-length (day u n) in_days) (date-returns (day u n) in_days)
    (time-is unit (of_day u n) (rest u n) (rest_small 86400 (second u n) (omega arith)) (rest_small u n (some_units unit)))
    ∙ ap (only_within (signed_range 64)) (count-is unit n)
    ∙ within n fits

pub moment-returns : (unit : TimeUnit) (n : ℤ) → is_value_of (dtype.Datetime unit) (Number n) ≡ true → is_within (signed_range 64) n ≡ true → Returns (dtype.Datetime unit) (Number n)
moment-returns unit n h fits = ap (option_map Number) (moment unit n h fits)
