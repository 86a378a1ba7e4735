-- What is printed of values that are no texts holds neither quote nor line feed.
use Rattle.std.proofs.Common.{◌≡◌, ℕ, zero, suc, ◌+◌, ◌-◌, ◌/◌, ◌%◌, ◌^◌, ◌<◌, Bool, true, false, ◌||◌, ◌==◌, cond, List, [], ◌∷◌, ◌++◌, length, take, drop, replicate, Option, None, Some, unwrap_or, ℤ, pos, negsuc, unsigned_abs, refl, ◌∙◌, ap, arith}
use Rattle.std.specs.Prelude.{decimal}
use Rattle.std.specs.Fmt.{digits, digits_onto, digit_glyph, signed_decimal}
use Rattle.std.specs.Int.{int_div_euclid, int_rem_euclid, is_negative}
use Rattle.std.specs.List.{list_any}
use Rattle.std.proofs.lemmas.Bool.Decides.{nat_tests}
use Rattle.pl_frame.specs.declared.data_type.DataType.{DataType}
use Rattle.pl_frame.specs.declared.data_type.DataType.TheVariants as dtype
use Rattle.pl_frame.specs.Days.{CivilDate}
use Rattle.pl_frame.specs.Frame.{Truth, Number}
use Rattle.pl_frame.specs.Types.{units_in_second}
use Rattle.pl_text.specs.ValueText.{padded, civil_text, date_of, date_text, clock_text, time_text, places_of, second_text, count_text, point_text, decimal_text, number_text, printed}
use Rattle.pl_row_numbers.specs.Numbers.{is_mark, IsPlain}
use Rattle.pl_row_numbers.proofs.QuoteLaws.{either_false}

pub plain-cons : (x : ℕ) (xs : List ℕ) → is_mark x ≡ false → IsPlain xs → IsPlain (x ∷ xs)
plain-cons x xs e h = ap (λ t. t || list_any is_mark xs) e ∙ h

pub plain-append : (xs ys : List ℕ) → IsPlain xs → IsPlain ys → IsPlain (xs ++ ys)
plain-append [] ys first second = second
plain-append (x ∷ xs) ys first second =
    let parts = either_false (is_mark x) (list_any is_mark xs) first in
    plain-cons x (xs ++ ys) parts.0 (plain-append xs ys parts.1 second)

plain-take : (n : ℕ) (xs : List ℕ) → IsPlain xs → IsPlain (take n xs)
plain-take zero xs h = refl
plain-take (suc n) [] h = refl
plain-take (suc n) (x ∷ xs) h = let parts = either_false (is_mark x) (list_any is_mark xs) h in plain-cons x (take n xs) parts.0 (plain-take n xs parts.1)

plain-drop : (n : ℕ) (xs : List ℕ) → IsPlain xs → IsPlain (drop n xs)
plain-drop zero xs h = h
plain-drop (suc n) [] h = refl
plain-drop (suc n) (x ∷ xs) h = plain-drop n xs (either_false (is_mark x) (list_any is_mark xs) h).1

-- ---- digits

glyph : (d : ℕ) → d < 10 → is_mark (digit_glyph false d) ≡ false
glyph d small = grind (arith, nat_tests)

plain-onto : (k n : ℕ) (acc : List ℕ) → IsPlain acc → IsPlain (digits_onto k 10 false n acc)
plain-onto zero n acc h = h
plain-onto (suc k) n acc h =
    let more = plain-cons (digit_glyph false (n % 10)) acc (glyph (n % 10) (omega arith)) h in
    by (n / 10 == 0) (digit_glyph false (n % 10) ∷ acc) (digits_onto k 10 false (n / 10) (digit_glyph false (n % 10) ∷ acc)) more (plain-onto k (n / 10) (digit_glyph false (n % 10) ∷ acc) more)
  where
    by : (t : Bool) (xs ys : List ℕ) → IsPlain xs → IsPlain ys → IsPlain (cond t xs ys)
    by true xs ys f s = f
    by false xs ys f s = s

pub plain-decimal : (n : ℕ) → IsPlain (decimal n)
unfolding digits
plain-decimal n = plain-onto 64 n [] refl

plain-zeros : (k : ℕ) → IsPlain (replicate k 48)
plain-zeros zero = refl
plain-zeros (suc k) = plain-zeros k

plain-padded : (w n : ℕ) → IsPlain (padded w n)
plain-padded w n = plain-append (replicate (w - length (decimal n)) 48) (decimal n) (plain-zeros (w - length (decimal n))) (plain-decimal n)

plain-signed : (n : ℤ) → IsPlain (signed_decimal n)
plain-signed (pos n) = plain-decimal n
plain-signed (negsuc n) = plain-decimal (suc n)

-- ---- dates and times

plain-civil : (d : CivilDate) → IsPlain (civil_text d)
plain-civil d =
    plain-append (padded 4 d.year) (45 ∷ (padded 2 d.month ++ 45 ∷ padded 2 d.day)) (plain-padded 4 d.year)
    (plain-append (padded 2 d.month) (45 ∷ padded 2 d.day) (plain-padded 2 d.month) (plain-padded 2 d.day))

plain-date : (day : ℤ) → IsPlain (date_text day)
plain-date day = by (date_of day)
  where
    by : (d : Option CivilDate) → IsPlain (elim d [ None ↦ [] | Some date ↦ civil_text date ])
    by None = refl
    by (Some date) = plain-civil date

plain-clock : (s : ℕ) → IsPlain (clock_text s)
plain-clock s =
    plain-append (padded 2 (s / 3600)) (58 ∷ (padded 2 (s / 60 % 60) ++ 58 ∷ padded 2 (s % 60))) (plain-padded 2 (s / 3600))
    (plain-append (padded 2 (s / 60 % 60)) (58 ∷ padded 2 (s % 60)) (plain-padded 2 (s / 60 % 60)) (plain-padded 2 (s % 60)))

plain-time : (n : ℕ) → IsPlain (time_text n)
plain-time n = plain-append (clock_text (n / 10 ^ 9)) (46 ∷ padded 9 (n % 10 ^ 9)) (plain-clock (n / 10 ^ 9)) (plain-padded 9 (n % 10 ^ 9))

plain-second : (s : ℤ) → IsPlain (second_text s)
plain-second s =
    let of_day = unsigned_abs (int_rem_euclid s (pos 86400)) in
    plain-append (date_text (int_div_euclid s (pos 86400))) (84 ∷ clock_text of_day) (plain-date (int_div_euclid s (pos 86400))) (plain-clock of_day)

plain-count : (units places : ℕ) (n : ℤ) → IsPlain (count_text units places n)
plain-count units places n =
    let rest = unsigned_abs (int_rem_euclid n (pos units)) in
    plain-append (second_text (int_div_euclid n (pos units))) (46 ∷ padded places rest) (plain-second (int_div_euclid n (pos units))) (plain-padded places rest)

-- ---- decimals

plain-point : (scale : ℕ) (ds : List ℕ) → IsPlain ds → IsPlain (point_text scale ds)
plain-point scale ds h = plain-append (take (length ds - scale) ds) (cond (scale == 0) [] (46 ∷ drop (length ds - scale) ds)) (plain-take (length ds - scale) ds h) (by (scale == 0))
  where
    by : (t : Bool) → IsPlain (cond t [] (46 ∷ drop (length ds - scale) ds))
    by true = refl
    by false = plain-drop (length ds - scale) ds h

plain-decimal_text : (scale : ℕ) (n : ℤ) → IsPlain (decimal_text scale n)
plain-decimal_text scale n =
    let rest = point_text scale (padded (scale + 1) (unsigned_abs n)) in
    plain-append (cond (is_negative n) (45 ∷ []) []) rest (by (is_negative n)) (plain-point scale (padded (scale + 1) (unsigned_abs n)) (plain-padded (scale + 1) (unsigned_abs n)))
  where
    by : (t : Bool) → IsPlain (cond t (45 ∷ []) [])
    by true = refl
    by false = refl

-- ---- values

plain-number : (type : DataType) (n : ℤ) → IsPlain (number_text type n)
plain-number dtype.Date n = plain-date n
plain-number dtype.Time n = plain-time (unsigned_abs n)
plain-number (dtype.Datetime unit) n = plain-count (units_in_second unit) (places_of unit) n
plain-number (dtype.Decimal precision scale) n = plain-decimal_text (unwrap_or scale 0) n
plain-number type n = plain-signed n

pub plain-printed_number : (type : DataType) (n : ℤ) → IsPlain (printed type (Number n))
plain-printed_number type n = plain-number type n

pub plain-printed_truth : (type : DataType) (b : Bool) → IsPlain (printed type (Truth b))
plain-printed_truth type true = refl
plain-printed_truth type false = refl
