-- What is no text is printed in letters, digits, `-`, `.` and `:`.
use Rattle.std.proofs.Common.{◌≡◌, ℕ, suc, ◌+◌, ◌-◌, ◌*◌, ◌/◌, ◌%◌, ◌^◌, ◌<◌, ◌≤◌, Bool, true, false, ◌&&◌, ◌==◌, if◌then◌else◌, List, [], ◌∷◌, ◌++◌, length, take, drop, None, Some, ℤ, pos, negsuc, unsigned_abs, refl, sym, ◌∙◌, ap, arith}
use Rattle.std.specs.Prelude.{decimal}
use Rattle.std.specs.Char.{is_ascii_digit}
use Rattle.std.specs.Fmt.{signed_decimal}
use Rattle.std.specs.Str.{all_ascii_digits, is_utf8}
use Rattle.std.proofs.lemmas.Bool.Decides.{nat_tests}
use Rattle.jiff_core.proofs.CalendarLemmas.{days_in_month_bounds}
use Rattle.jiff_core.proofs.SignedLemmas.{signed_arith}
use Rattle.pl_frame.specs.declared.data_type.DataType.{DataType}
use Rattle.pl_frame.specs.declared.data_type.DataType.TheVariants as dtype
use Rattle.pl_frame.specs.declared.data_type.TimeUnit.{TimeUnit}
use Rattle.pl_frame.specs.declared.data_type.TimeUnit.TheVariants as unit
use Rattle.pl_frame.specs.Frame.{Scalar, Truth, Number, Letters}
use Rattle.pl_text.specs.ValueText.{padded, date_text, clock_text, time_text, places_of, datetime_text, point_text, decimal_text, printed}
use Rattle.pl_frame.specs.Types.{is_text, is_within, day_range, time_range, datetime_range, units_in_second}
use Rattle.pl_cells.proofs.IntegerLaws.{and_true}
use Rattle.pl_round_trip.specs.RoundTrip.{IsReadable, are_plain, is_printed_byte}
use Rattle.pl_round_trip.proofs.CalendarLaws.{has_date}
use Rattle.pl_round_trip.proofs.DayLaws.{text_is}
use Rattle.pl_text.proofs.TimeLaws.{day_of_count}
use Rattle.pl_round_trip.proofs.MomentLaws.{rest_small, some_units, second, rest, day, of_day}
use Rattle.pl_round_trip.proofs.NumeralLaws.{decimal-writes, padded-writes}
use Rattle.pl_round_trip.proofs.PointLaws.{parted, padded-wide, pointed, no_minus, scaled-small}
use Rattle.pl_round_trip.proofs.ValueLaws.{value-returns, some_text}
use Rattle.pl_round_trip.proofs.WholeLaws.{whole-small}

plain-append : (xs ys : List ℕ) → are_plain xs ≡ true → are_plain ys ≡ true → are_plain (xs ++ ys) ≡ true
plain-append [] ys e h = h
plain-append (x ∷ xs) ys e h =
    let parts = and_true (is_printed_byte x) (are_plain xs) e in
    ap (λ t. t && are_plain (xs ++ ys)) parts.0 ∙ plain-append xs ys parts.1 h

digit-plain : (x : ℕ) → is_ascii_digit x ≡ true → is_printed_byte x ≡ true
digit-plain x h = grind (arith, nat_tests, h)

plain-digits : (xs : List ℕ) → all_ascii_digits xs ≡ true → are_plain xs ≡ true
plain-digits [] h = refl
plain-digits (x ∷ xs) h =
    let parts = and_true (is_ascii_digit x) (all_ascii_digits xs) h in
    ap (λ t. t && are_plain xs) (digit-plain x parts.0) ∙ plain-digits xs parts.1

plain-padded : (w n : ℕ) → n < 10 ^ 64 → are_plain (padded w n) ≡ true
plain-padded w n bound = plain-digits (padded w n) (padded-writes w n bound).all

plain-signed : (n : ℤ) → unsigned_abs n < 10 ^ 64 → are_plain (signed_decimal n) ≡ true
plain-signed (pos n) bound = plain-digits (decimal n) (decimal-writes n bound).all
plain-signed (negsuc n) bound = plain-digits (decimal (suc n)) (decimal-writes (suc n) bound).all

plain-date : (day : ℤ) → is_within day_range day ≡ true → are_plain (date_text day) ≡ true
plain-date day h =
    let date = has_date day h in
    let month : date.m < 10 ^ 64 = omega (arith, date.is_date.1.1) in
    let last : date.d < 10 ^ 64 = omega (arith, date.is_date.2.1, days_in_month_bounds (pos date.y) date.m) in
    let year : date.y < 10 ^ 64 = omega (arith, date.few) in
    ap are_plain (sym (text_is day date))
    ∙ plain-append (padded 4 date.y) (45 ∷ (padded 2 date.m ++ 45 ∷ padded 2 date.d)) (plain-padded 4 date.y year)
    (plain-append (padded 2 date.m) (45 ∷ padded 2 date.d) (plain-padded 2 date.m month) (plain-padded 2 date.d last))

plain-clock : (s : ℕ) → s < 86400 → are_plain (clock_text s) ≡ true
plain-clock s small =
    plain-append (padded 2 (s / 3600)) (58 ∷ (padded 2 (s / 60 % 60) ++ 58 ∷ padded 2 (s % 60))) (plain-padded 2 (s / 3600) (omega (arith, small)))
    (plain-append (padded 2 (s / 60 % 60)) (58 ∷ padded 2 (s % 60)) (plain-padded 2 (s / 60 % 60) (omega (arith, small))) (plain-padded 2 (s % 60) (omega (arith, small))))

plain-time : (n : ℕ) → n < 86400 * 10 ^ 9 → are_plain (time_text n) ≡ true
plain-time n small = plain-append (clock_text (n / 10 ^ 9)) (46 ∷ padded 9 (n % 10 ^ 9)) (plain-clock (n / 10 ^ 9) (omega (arith, small))) (plain-padded 9 (n % 10 ^ 9) (omega arith))

few_units : (unit : TimeUnit) → units_in_second unit ≤ 10 ^ 9
few_units unit.Milliseconds = omega arith
few_units unit.Microseconds = omega arith
few_units unit.Nanoseconds = omega arith

plain-datetime : (unit : TimeUnit) (n : ℤ) → is_within (datetime_range (units_in_second unit)) n ≡ true → are_plain (datetime_text unit n) ≡ true
plain-datetime unit n h =
    let u = units_in_second unit in
    let part : rest u n < 10 ^ 64 = omega (arith, rest_small u n (some_units unit), few_units unit) in
    plain-append (date_text (day u n) ++ 84 ∷ clock_text (of_day u n)) (46 ∷ padded (places_of unit) (rest u n))
    (plain-append (date_text (day u n)) (84 ∷ clock_text (of_day u n)) (plain-date (day u n) (day_of_count u n (some_units unit) h))
    (plain-clock (of_day u n) (rest_small 86400 (second u n) (omega arith))))
    (plain-padded (places_of unit) (rest u n) part)

plain-pointed : (scale : ℕ) (f : List ℕ) → are_plain f ≡ true → are_plain (pointed scale f) ≡ true
plain-pointed scale f h = by (scale == 0)
  where
    by : (t : Bool) → are_plain (if t then [] else 46 ∷ f) ≡ true
    by true = refl
    by false = h

plain-point : (scale m : ℕ) → m < 10 ^ 64 → are_plain (point_text scale (padded (scale + 1) m)) ≡ true
plain-point scale m bound =
    let ds = padded (scale + 1) m in
    let p = parted scale m ds (padded-writes (scale + 1) m bound) (padded-wide (scale + 1) m) in
    plain-append (take (length ds - scale) ds) (pointed scale (drop (length ds - scale) ds)) (plain-digits (take (length ds - scale) ds) p.digits)
    (plain-pointed scale (drop (length ds - scale) ds) (plain-digits (drop (length ds - scale) ds) p.behind))

plain-decimal : (scale : ℕ) (n : ℤ) → unsigned_abs n < 10 ^ 64 → are_plain (decimal_text scale n) ≡ true
plain-decimal scale (pos m) bound = ap (λ (t : Bool). are_plain ((if t then 45 ∷ [] else []) ++ point_text scale (padded (scale + 1) m))) (no_minus m) ∙ plain-point scale m bound
plain-decimal scale (negsuc m) bound = plain-point scale (suc m) bound

not_negative : (n : ℤ) → is_within time_range n ≡ true → unsigned_abs n < 86400 * 10 ^ 9
not_negative n h = grind (arith, signed_arith, h)

plain : (type : DataType) (value : Scalar) → is_text type ≡ false → IsReadable type value → are_plain (printed type value) ≡ true
plain dtype.Boolean (Truth true) e h = refl
plain dtype.Boolean (Truth false) e h = refl
plain dtype.Int8 (Number n) e h = plain-signed n (whole-small dtype.Int8 n refl h.held)
plain dtype.Int16 (Number n) e h = plain-signed n (whole-small dtype.Int16 n refl h.held)
plain dtype.Int32 (Number n) e h = plain-signed n (whole-small dtype.Int32 n refl h.held)
plain dtype.Int64 (Number n) e h = plain-signed n (whole-small dtype.Int64 n refl h.held)
plain dtype.Int128 (Number n) e h = plain-signed n (whole-small dtype.Int128 n refl h.held)
plain dtype.UInt8 (Number n) e h = plain-signed n (whole-small dtype.UInt8 n refl h.held)
plain dtype.UInt16 (Number n) e h = plain-signed n (whole-small dtype.UInt16 n refl h.held)
plain dtype.UInt32 (Number n) e h = plain-signed n (whole-small dtype.UInt32 n refl h.held)
plain dtype.UInt64 (Number n) e h = plain-signed n (whole-small dtype.UInt64 n refl h.held)
plain dtype.Date (Number n) e h = plain-date n h.held
plain dtype.Time (Number n) e h = plain-time (unsigned_abs n) (not_negative n h.held)
plain (dtype.Datetime unit) (Number n) e h = plain-datetime unit n h.held
plain (dtype.Decimal precision (Some scale)) (Number n) e h = plain-decimal scale n (scaled-small precision scale n h.can h.held)
plain (dtype.Decimal precision None) (Number n) e h = let no = h.can in cc
plain dtype.String value e h = cc
plain dtype.Categorical value e h = cc
plain (dtype.Enum d) value e h = cc
plain type (Letters text) e h = let no = (and_true (is_utf8 text) false h.held).1 in cc
plain type value e h = let no = h.held in cc

pub printed-plain : (type : DataType) (value : Scalar) → is_text type ≡ false → IsReadable type value → (0 < length (printed type value)) × (are_plain (printed type value) ≡ true)
printed-plain type value e h = (some_text type (printed type value) value e (value-returns type value h), plain type value e h)
