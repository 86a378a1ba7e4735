-- Dates that stand as they are printed.
use Rattle.std.proofs.Common.{◌≡◌, ℕ, zero, suc, ◌+◌, ◌-◌, ◌*◌, ◌/◌, ◌%◌, ◌^◌, ◌<◌, ◌≤◌, nat_le, Bool, true, false, List, [], ◌∷◌, ◌++◌, length, replicate, take, drop, get_or, pos, refl, sym, ◌∙◌, ap, ap₂, arith, append_assoc, length-append}
use Rattle.std.specs.Prelude.{decimal}
use Rattle.std.specs.Bool.{OnTrue}
use Rattle.std.specs.Char.{is_ascii_digit}
use Rattle.std.specs.List.{slice_range}
use Rattle.std.proofs.lemmas.Bool.{eqb-true}
use Rattle.std.proofs.lemmas.Bool.Decides.{nat_tests}
use Rattle.std.proofs.lemmas.Fmt.{decimal_digit, decimal_step}
use Rattle.std.proofs.lemmas.List.{drop-drop, drop-take, length-drop, length-take-le, take_all}
use lib.Lanes.{chunk}
use Rattle.jiff_core.specs.Calendar.{IsCivilDate, days_from_civil}
use Rattle.pl_frame.specs.Days.{civil}
use Rattle.pl_text.specs.ValueText.{padded, civil_text}
use Rattle.pl_cells.specs.Lanes.{HasDateDigits}
use Rattle.pl_cells.proofs.DateLaws.{day-within}
use Rattle.pl_text.proofs.DateLaws.{date_text-is}
use Rattle.pl_verbatim.specs.CellTexts.{IsDateText}

-- ---- numbers in a fixed number of digits

-- one more in front is one more behind
replicate-behind : (x n : ℕ) → replicate n x ++ x ∷ [] ≡ x ∷ replicate n x
replicate-behind x zero = refl
replicate-behind x (suc n) = ap (λ l. x ∷ l) (replicate-behind x n)

-- a number of one digit
pub padded-one : (w n : ℕ) → n < 10 → padded (suc w) n ≡ replicate w 48 ++ (48 + n) ∷ []
padded-one w n small = ap (λ d. replicate (suc w - length d) 48 ++ d) (decimal_digit n small) ∙ ap (λ k. replicate k 48 ++ (48 + n) ∷ []) less
  where
    less : suc w - 1 ≡ w
    less = omega (arith)

-- a number in one digit more: the number without its last digit, and that digit
padded-step : (w n : ℕ) → n < 2 ^ 64 → padded (suc (suc w)) n ≡ padded (suc w) (n / 10) ++ (48 + n % 10) ∷ []
padded-step w n bound = by_size (nat_le 10 n) refl
  where
    by_size : (t : Bool) → nat_le 10 n ≡ t → padded (suc (suc w)) n ≡ padded (suc w) (n / 10) ++ (48 + n % 10) ∷ []
    by_size false h =
        let small : n < 10 = grind (arith, nat_tests, h) in
        let none : n / 10 ≡ 0 = omega (arith, small) in
        let all : n % 10 ≡ n = omega (arith, small) in
        let front : padded (suc w) (n / 10) ≡ replicate (suc w) 48 = ap (padded (suc w)) none ∙ (padded-one w 0 (omega (arith)) ∙ replicate-behind 48 w) in
        padded-one (suc w) n small ∙ (ap (λ l. l ++ (48 + n) ∷ []) (sym front) ∙ ap (λ k. padded (suc w) (n / 10) ++ (48 + k) ∷ []) (sym all))
    by_size true h =
        let large : 10 ≤ n = grind (arith, nat_tests, h) in
        let step = decimal_step n large bound in
        let d = decimal (n / 10) in
        let last = 48 + n % 10 in
        let longer : length (d ++ last ∷ []) ≡ length d + 1 = length-append d (last ∷ []) in
        let room : suc (suc w) - length (d ++ last ∷ []) ≡ suc w - length d = omega (arith, longer) in
        ap (λ l. replicate (suc (suc w) - length l) 48 ++ l) step
        ∙ (ap (λ k. replicate k 48 ++ (d ++ last ∷ [])) room ∙ sym (append_assoc (replicate (suc w - length d) 48) d (last ∷ [])))

abbrev pub pair_of : ℕ → ℕ → ℕ
pair_of tens ones = (tens - 48) * 10 + (ones - 48)

-- what a test tells of a digit
digit_bounds : (x : ℕ) → is_ascii_digit x ≡ true → (48 ≤ x) × (x ≤ 57)
digit_bounds x e = (grind (arith, nat_tests, e), grind (arith, nat_tests, e))

last_two : (w a b n : ℕ) → is_ascii_digit a ≡ true → is_ascii_digit b ≡ true → n < 100 → padded (suc (suc (suc w))) (n * 100 + pair_of a b) ≡ padded (suc w) n ++ a ∷ b ∷ []
last_two w a b n da db bound =
    let tens = digit_bounds a da in
    let ones = digit_bounds b db in
    let m = n * 100 + pair_of a b in
    let front : m / 10 / 10 ≡ n = omega (arith, tens, ones) in
    let first : 48 + m / 10 % 10 ≡ a = omega (arith, tens, ones) in
    let second : 48 + m % 10 ≡ b = omega (arith, tens, ones) in
    padded-step (suc w) m (omega (arith, tens, ones, bound))
    ∙ ap (λ l. l ++ (48 + m % 10) ∷ []) (padded-step w (m / 10) (omega (arith, tens, ones, bound)))
    ∙ append_assoc (padded (suc w) (m / 10 / 10)) ((48 + m / 10 % 10) ∷ []) ((48 + m % 10) ∷ [])
    ∙ ap (λ k. padded (suc w) k ++ (48 + m / 10 % 10) ∷ (48 + m % 10) ∷ []) front
    ∙ ap₂ (λ x y. padded (suc w) n ++ x ∷ y ∷ []) first second

pub two_digits : (a b : ℕ) → is_ascii_digit a ≡ true → is_ascii_digit b ≡ true → padded 2 (pair_of a b) ≡ a ∷ b ∷ []
two_digits a b da db =
    let tens = digit_bounds a da in
    let ones = digit_bounds b db in
    let n = pair_of a b in
    let first : 48 + n / 10 ≡ a = omega (arith, tens, ones) in
    let second : 48 + n % 10 ≡ b = omega (arith, tens, ones) in
    padded-step 0 n (omega (arith, tens, ones)) ∙ ap (λ l. l ++ (48 + n % 10) ∷ []) (padded-one 0 (n / 10) (omega (arith, tens, ones))) ∙ ap₂ (λ x y. x ∷ y ∷ []) first second

four_digits : (a b c d : ℕ) → is_ascii_digit a ≡ true → is_ascii_digit b ≡ true → is_ascii_digit c ≡ true → is_ascii_digit d ≡ true
    → padded 4 (pair_of a b * 100 + pair_of c d) ≡ a ∷ b ∷ c ∷ d ∷ []
four_digits a b c d da db dc dd =
    last_two 1 c d (pair_of a b) dc dd (omega (arith, digit_bounds a da, digit_bounds b db)) ∙ ap (λ l. l ++ c ∷ d ∷ []) (two_digits a b da db)

-- ---- dates

-- the text of a date that the calendar has
civil_written : (text : List ℕ) (y m d : ℕ) → text ≡ civil_text (civil y m d) → IsCivilDate (pos y) m d → IsDateText text
civil_written text y m d is date =
    let within = day-within y m d (days_from_civil (pos y) m d) date refl in
    record {
      day = days_from_civil (pos y) m d;
      within = within;
      text_is = is ∙ date_text-is (pos y) m d (days_from_civil (pos y) m d) date refl within;
    }

-- ten bytes that are digits and hyphens, where the calendar has the day
pub date_written : (text : List ℕ) (y m d : ℕ) → length text ≡ 10 → HasDateDigits text
    → y ≡ pair_of (get_or text 0 0) (get_or text 1 0) * 100 + pair_of (get_or text 2 0) (get_or text 3 0)
    → m ≡ pair_of (get_or text 5 0) (get_or text 6 0) → d ≡ pair_of (get_or text 8 0) (get_or text 9 0)
    → IsCivilDate (pos y) m d → IsDateText text
date_written (y₁ ∷ y₂ ∷ y₃ ∷ y₄ ∷ h₁ ∷ m₁ ∷ m₂ ∷ h₂ ∷ d₁ ∷ d₂ ∷ []) y m d long is year month day date =
    let years : padded 4 y ≡ y₁ ∷ y₂ ∷ y₃ ∷ y₄ ∷ [] = ap (padded 4) year ∙ four_digits y₁ y₂ y₃ y₄ is.first is.second is.third is.fourth in
    let months : padded 2 m ≡ m₁ ∷ m₂ ∷ [] = ap (padded 2) month ∙ two_digits m₁ m₂ is.fifth is.sixth in
    let days : padded 2 d ≡ d₁ ∷ d₂ ∷ [] = ap (padded 2) day ∙ two_digits d₁ d₂ is.seventh is.eighth in
    let hyphen : 45 ≡ h₁ = sym (eqb-true h₁ 45 is.hyphen) in
    let later : 45 ≡ h₂ = sym (eqb-true h₂ 45 is.later_hyphen) in
    civil_written _ y m d (sym (λ i. years i ++ hyphen i ∷ (months i ++ later i ∷ days i))) date
date_written _ y m d long is year month day date = absurd (omega arith)

-- ---- places

pub on_true : (b : Bool) (P Q : Type 0) → (P → Q) → OnTrue b P → OnTrue b Q
on_true true P Q f p = f p
on_true false P Q f p = tt

-- the last ten of the sixteen bytes that are loaded
pub last_ten : (text : List ℕ) (at : ℕ) → 6 ≤ at → at + 10 ≤ length text → drop 6 (chunk 0 16 (slice_range text (at - 6) (at + 10))) ≡ slice_range text at (at + 10)
last_ten text at low room =
    let all : at + 10 - (at - 6) ≡ 6 + 10 = omega arith in
    let back : at - 6 + 6 ≡ at = omega arith in
    let ten : at + 10 - at ≡ 10 = omega arith in
    let loaded = slice_range text (at - 6) (at + 10) in
    let long : length loaded ≤ 16 = omega (arith, length-take-le (at + 10 - (at - 6)) (drop (at - 6) text) (omega (arith, length-drop (at - 6) text))) in
    ap (drop 6) (take_all 16 loaded long)
    ∙ ap (λ n. drop 6 (take n (drop (at - 6) text))) all
    ∙ drop-take 6 10 (drop (at - 6) text)
    ∙ ap (take 10) (drop-drop 6 (at - 6) text ∙ ap (λ n. drop n text) back)
    ∙ ap (λ n. take n (drop at text)) (sym ten)
