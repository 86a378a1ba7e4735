-- A made input, line by line, and the days of its rows.
use Rattle.std.proofs.Common.{◌≡◌, ℕ, ◌+◌, ◌-◌, ◌/◌, ◌%◌, ◌<◌, ◌≤◌, nat_le, Bool, true, false, List, [], ◌∷◌, ◌++◌, length, replicate, ℤ, pos, unsigned_abs, ◌<ℤ◌, refl, sym, ◌∙◌, ap, append_assoc, append-nil, arith}
use Rattle.std.specs.Prelude.{decimal, map}
use Rattle.std.specs.List.{flat_map, range_with_len}
use Rattle.std.proofs.lemmas.Bool.Decides.{nat_tests}
use Rattle.std.proofs.lemmas.Fmt.{decimal_digit, decimal_step}
use Rattle.std.proofs.lemmas.Grind.{flat_map-append}
use Rattle.std.proofs.lemmas.Int.{by_lt_z}
use Rattle.std.proofs.lemmas.List.FromFn.{map-range_with_len_more}
use Rattle.jiff_core.proofs.CalendarLemmas.{days_from_civil-day_count, day_count-lt_year}
use Rattle.jiff_core.proofs.SignedLemmas.{signed_arith}
use Rattle.jiff_core.specs.Calendar.{IsCivilDate, day_count, days_of_years, days_of_months, days_from_civil}
use Rattle.pl_frame.specs.Days.{civil}
use Rattle.pl_text.specs.ValueText.{padded, civil_text, date_text}
use Rattle.pl_frame.specs.Types.{is_within, day_range}
use Rattle.pl_csv.specs.MadeInput.{made_names, made_fields, made_line, made_lines, made_input}
use Rattle.pl_text.proofs.DateLaws.{date_text-is}

-- ---- digits

-- a number in two digits
pub padded_pair : (n : ℕ) → n < 100 → padded 2 n ≡ (48 + n / 10) ∷ (48 + n % 10) ∷ []
padded_pair n small = by_size (nat_le 10 n) refl
  where
    by_size : (t : Bool) → nat_le 10 n ≡ t → padded 2 n ≡ (48 + n / 10) ∷ (48 + n % 10) ∷ []
    by_size false h =
        let one : n < 10 = grind (arith, nat_tests, h) in
        let tens : n / 10 ≡ 0 = omega (arith, one) in
        let ones : n % 10 ≡ n = omega (arith, one) in
        ap (λ d. replicate (2 - length d) 48 ++ d) (decimal_digit n one) ∙ sym (rw (tens, ones) refl)
    by_size true h =
        let large : 10 ≤ n = grind (arith, nat_tests, h) in
        let digits = decimal_step n large (omega (arith, small)) ∙ ap (λ d. d ++ (48 + n % 10) ∷ []) (decimal_digit (n / 10) (omega (arith, small))) in
        ap (λ d. replicate (2 - length d) 48 ++ d) digits

-- ---- the lines

pub lines-more : (n : ℕ) → made_lines (n + 1) ≡ made_lines n ++ made_line (made_fields n)
lines-more n = ap (flat_map (λ row. made_line (made_fields row))) (range-more n) ∙ flat_map-append (λ row. made_line (made_fields row)) (range_with_len 0 n) (n ∷ []) ∙ ap (λ l. made_lines n ++ l) (append-nil (made_line (made_fields n)))
  where
    same : (xs : List ℕ) → map (λ x. x) xs ≡ xs
    same [] = refl
    same (x ∷ xs) = ap (λ l. x ∷ l) (same xs)

    range-more : (n : ℕ) → range_with_len 0 (n + 1) ≡ range_with_len 0 n ++ n ∷ []
    range-more n = sym (same (range_with_len 0 (n + 1))) ∙ map-range_with_len_more (λ x. x) 0 n n (omega arith) ∙ ap (λ l. l ++ n ∷ []) (same (range_with_len 0 n))

-- ---- the days of the year 2020

first_2020 : days_from_civil (pos 2020) 1 1 ≡ pos 18262
unfolding days_from_civil day_count days_of_years days_of_months
first_2020 = refl

last_2020 : days_from_civil (pos 2020) 12 31 ≡ pos 18627
unfolding days_from_civil day_count days_of_years days_of_months
last_2020 = refl

-- a date with such a day number has this year
pub year_2020 : (y : ℤ) (m d day : ℕ) → IsCivilDate y m d → day < 366 → days_from_civil y m d ≡ pos (18262 + day) → y ≡ pos 2020
year_2020 y m d day h small is = by_lt_z y (pos 2020) early (λ le. by_lt_z (pos 2020) y late (λ ge. omega (arith, signed_arith)))
  where
    early : y <ℤ pos 2020 → y ≡ pos 2020
    early lt = absurd (omega (arith, signed_arith, is, first_2020, days_from_civil-day_count y m d, days_from_civil-day_count (pos 2020) 1 1, day_count-lt_year y m d (pos 2020) 1 1 h (omega arith) lt))

    late : pos 2020 <ℤ y → y ≡ pos 2020
    late lt =
        let last : IsCivilDate (pos 2020) 12 31 = ((omega (arith, signed_arith), omega (arith, signed_arith)), (omega arith, omega arith), (omega arith, omega arith)) in
        absurd (omega (arith, signed_arith, is, small, last_2020, days_from_civil-day_count y m d, days_from_civil-day_count (pos 2020) 12 31, day_count-lt_year (pos 2020) 12 31 y m d last h.2.0 lt))

year_digits : padded 4 2020 ≡ 50 ∷ 48 ∷ 50 ∷ 48 ∷ []
year_digits = ap (λ d. replicate (4 - length d) 48 ++ d) digits
  where
    digits : decimal 2020 ≡ 50 ∷ 48 ∷ 50 ∷ 48 ∷ []
    digits =
        decimal_step 2020 (omega arith) (omega arith)
        ∙ ap (λ d. d ++ 48 ∷ []) (decimal_step 202 (omega arith) (omega arith)
        ∙ ap (λ d. d ++ 50 ∷ []) (decimal_step 20 (omega arith) (omega arith)
        ∙ ap (λ d. d ++ 48 ∷ []) (decimal_digit 2 (omega arith))))

-- the text of a day of the year 2020, given its month and its day
pub day_text : (y : ℤ) (m d day : ℕ) → IsCivilDate y m d → day < 366 → days_from_civil y m d ≡ pos (18262 + day)
    → date_text (pos (18262 + day)) ≡ 50 ∷ 48 ∷ 50 ∷ 48 ∷ 45 ∷ (padded 2 m ++ 45 ∷ padded 2 d)
day_text y m d day h small is =
    let within : is_within day_range (pos (18262 + day)) ≡ true = grind (arith, signed_arith, small) in
    sym (date_text-is y m d (pos (18262 + day)) h is within)
    ∙ ap (λ z. civil_text (civil (unsigned_abs z) m d)) (year_2020 y m d day h small is)
    ∙ ap (λ l. l ++ 45 ∷ (padded 2 m ++ 45 ∷ padded 2 d)) year_digits

-- a text and the parts that were put behind it, one after another
pub day_joined : (before text m d front month middle whole : List ℕ) → front ≡ before ++ 50 ∷ 48 ∷ 50 ∷ 48 ∷ 45 ∷ [] → month ≡ front ++ m → middle ≡ month ++ 45 ∷ [] → whole ≡ middle ++ d
    → text ≡ 50 ∷ 48 ∷ 50 ∷ 48 ∷ 45 ∷ (m ++ 45 ∷ d) → whole ≡ before ++ text
day_joined before text m d front month middle whole a b c e is =
    let year : List ℕ = 50 ∷ 48 ∷ 50 ∷ 48 ∷ 45 ∷ [] in
    e ∙ ap (λ l. l ++ d) (c ∙ ap (λ l. l ++ 45 ∷ []) (b ∙ ap (λ l. l ++ m) a))
    ∙ append_assoc ((before ++ year) ++ m) (45 ∷ []) d
    ∙ append_assoc (before ++ year) m (45 ∷ d)
    ∙ append_assoc before year (m ++ 45 ∷ d)
    ∙ ap (λ l. before ++ l) (sym is)

-- the line of the names, and then all lines
pub lines-all : (before front whole : List ℕ) (row rows : ℕ) → front ≡ before ++ made_line made_names → whole ≡ front ++ made_lines row → rows ≤ row → row ≤ rows → whole ≡ before ++ made_input rows
lines-all before front whole row rows named is low high =
    let same : row ≡ rows = omega (arith, low, high) in
    is ∙ ap (λ l. l ++ made_lines row) named ∙ append_assoc before (made_line made_names) (made_lines row) ∙ ap (λ n. before ++ (made_line made_names ++ made_lines n)) same
