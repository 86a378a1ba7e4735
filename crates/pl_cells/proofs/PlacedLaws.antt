-- Numbers that are read in place.
use Rattle.std.proofs.Common.{◌≡◌, ℕ, zero, suc, ◌+◌, ◌-◌, ◌<◌, ◌≤◌, ◌==◌, nat_eq, nat_le, Bool, true, false, ◌&&◌, ◌||◌, if◌then◌else◌, List, [], ◌∷◌, length, take, drop, get_or, Some, None, refl, sym, ◌∙◌, ap, ap₂, arith}
use Rattle.std.proofs.lemmas.Bool.Decides.{nat_tests}
use Rattle.std.proofs.lemmas.List.{drop_more, drop_all, drop-drop, drop-take, length-drop, get_or-drop}
use Rattle.std.specs.Char.{is_ascii_digit}
use Rattle.std.specs.Cmp.Lexicographic.{pointwise}
use Rattle.std.specs.List.{ends_with}
use Rattle.std.specs.Str.{all_ascii_digits}
use Rattle.pl_cells.specs.Columns.{begins_number}
use Rattle.pl_cells.specs.Integers.{is_digits, without_minus, without_sign}
use Rattle.pl_cells.specs.Quoting.{strip, quote_of, is_well_quoted, inside}
use Rattle.pl_cells.proofs.IntegerLaws.{all_ascii_digits_spoilt, all_ascii_digits-is}

-- ---- no carriage return at the end

pub digit_no_return : (x : ℕ) → is_ascii_digit x ≡ true → nat_eq 13 x ≡ false
digit_no_return x digit = grind (arith, nat_tests)

last_digit : (xs : List ℕ) (k : ℕ) → k < length xs → all_ascii_digits xs ≡ true → is_ascii_digit (get_or xs k 0) ≡ true
last_digit xs k inside digits = by (is_ascii_digit (get_or xs k 0)) refl
  where
    by : (t : Bool) → is_ascii_digit (get_or xs k 0) ≡ t → is_ascii_digit (get_or xs k 0) ≡ true
    by true e = e
    by false e = let spoilt = all_ascii_digits_spoilt xs k inside e in absurd (cc)

pub strip_same : (xs : List ℕ) → 0 < length xs → nat_eq 13 (get_or xs (length xs - 1) 0) ≡ false → strip xs ≡ xs
strip_same xs some other =
    let back = drop_more xs (length xs - 1) 0 (omega arith) in
    let test : ends_with nat_eq xs (13 ∷ []) ≡ false = ap (λ (l : List ℕ). pointwise nat_eq (13 ∷ []) l) back ∙ ap (λ t. t && pointwise nat_eq [] (drop (length xs - 1 + 1) xs)) other in
    (λ j. if test j then take (length xs - 1) xs else xs)

digits_some : (xs : List ℕ) → is_digits xs ≡ true → 0 < length xs
digits_some [] digits = absurd (cc)
digits_some (x ∷ xs) digits = omega arith

pub strip_digits : (xs : List ℕ) → is_digits xs ≡ true → strip xs ≡ xs
strip_digits [] digits = absurd (cc)
strip_digits (x ∷ xs) digits = strip_same (x ∷ xs) (omega arith) (digit_no_return (get_or (x ∷ xs) (length (x ∷ xs) - 1) 0) (last_digit (x ∷ xs) (length (x ∷ xs) - 1) (omega arith) digits))

pub strip_whole : (text : List ℕ) → is_digits (without_minus text) ≡ true → strip text ≡ text
strip_whole [] digits = absurd (cc)
strip_whole (x ∷ xs) digits = by (x == 45) digits
  where
    by : (t : Bool) → is_digits (if t then xs else x ∷ xs) ≡ true → strip (x ∷ xs) ≡ x ∷ xs
    by false all = strip_digits (x ∷ xs) all
    by true all =
        let some : 0 < length xs = digits_some xs all in
        let place : length (x ∷ xs) - 1 ≡ suc (length xs - 1) = omega arith in
        let last : is_ascii_digit (get_or (x ∷ xs) (length (x ∷ xs) - 1) 0) ≡ true =
        ap (λ k. is_ascii_digit (get_or (x ∷ xs) k 0)) place ∙ last_digit xs (length xs - 1) (omega arith) (all_ascii_digits-is xs all) in
        strip_same (x ∷ xs) (omega arith) (digit_no_return (get_or (x ∷ xs) (length (x ∷ xs) - 1) 0) last)

-- a text that ends in digits
pub strip_drop : (upto : List ℕ) (start later : ℕ) → start ≤ later → is_digits (drop later upto) ≡ true → strip (drop start upto) ≡ drop start upto
strip_drop upto start later le digits =
    let back = drop later upto in
    let field = drop start upto in
    let some : 0 < length back = digits_some back digits in
    let long : length back ≡ length upto - later = length-drop later upto in
    let wide : length field ≡ length upto - start = length-drop start upto in
    let same : later + (length back - 1) ≡ start + (length field - 1) = omega (arith, some, long, wide) in
    let last : get_or back (length back - 1) 0 ≡ get_or field (length field - 1) 0 =
    get_or-drop later upto (length back - 1) 0 ∙ ap (λ k. get_or upto k 0) same ∙ sym (get_or-drop start upto (length field - 1) 0) in
    let digit : is_ascii_digit (get_or field (length field - 1) 0) ≡ true = ap is_ascii_digit (sym last) ∙ last_digit back (length back - 1) (omega (arith, some)) (all_ascii_digits-is back digits) in
    strip_same field (omega (arith, some, long, wide)) (digit_no_return (get_or field (length field - 1) 0) digit)

-- a text of a minus and a digit, or a digit
pub front_digit : (text : List ℕ) (n : ℕ) → is_digits (take n text) ≡ true → is_digits (take 1 text) ≡ true
front_digit [] zero digits = absurd (cc)
front_digit [] (suc n) digits = absurd (cc)
front_digit (x ∷ xs) zero digits = absurd (cc)
front_digit (x ∷ xs) (suc n) digits = by (is_ascii_digit x) digits
  where
    by : (t : Bool) → (t && all_ascii_digits (take n xs)) ≡ true → (t && true) ≡ true
    by true e = refl
    by false e = absurd (cc)

first_is : (x : ℕ) (xs : List ℕ) → is_digits (take 1 (x ∷ xs)) ≡ true → is_ascii_digit x ≡ true
first_is x xs digits = by (is_ascii_digit x) digits
  where
    by : (t : Bool) → (t && true) ≡ true → t ≡ true
    by true e = refl
    by false e = e

-- ---- texts that are plain at sight

-- the last byte of what stands from a place on
last_byte : (upto : List ℕ) (start : ℕ) → start < length upto → get_or (drop start upto) (length (drop start upto) - 1) 0 ≡ get_or upto (length upto - 1) 0
last_byte upto start inside =
    let long : length (drop start upto) ≡ length upto - start = length-drop start upto in
    get_or-drop start upto (length (drop start upto) - 1) 0 ∙ ap (λ k. get_or upto k 0) (omega (arith, long))

pub strip_last : (upto : List ℕ) (start : ℕ) → start < length upto → nat_eq 13 (get_or upto (length upto - 1) 0) ≡ false → strip (drop start upto) ≡ drop start upto
strip_last upto start inside other =
    strip_same (drop start upto) (omega (arith, length-drop start upto)) (ap (nat_eq 13) (last_byte upto start inside) ∙ other)

-- ---- texts between quotes

same_nat : (q : ℕ) → nat_eq q q ≡ true
same_nat q = grind (arith, nat_tests)

pub begins_with : (q : ℕ) (upto : List ℕ) (start : ℕ) → start < length upto → get_or upto start 0 ≡ q → quote_of (Some q) (drop start upto) ≡ Some q
begins_with q upto start inside first =
    ap (quote_of (Some q)) (drop_more upto start 0 inside) ∙ ap (λ t. if t then Some q else None) (ap (λ x. x == q) first ∙ same_nat q)

pub well_quoted : (q : ℕ) (upto : List ℕ) (start : ℕ) → start + 2 ≤ length upto → get_or upto (length upto - 1) 0 ≡ q → is_well_quoted q (drop start upto) ≡ true
well_quoted q upto start room last =
    let field = drop start upto in
    let long : length field ≡ length upto - start = length-drop start upto in
    let back = drop_more field (length field - 1) 0 (omega (arith, long, room)) in
    let none : drop (length field - 1 + 1) field ≡ [] = drop_all (length field - 1 + 1) field (omega (arith, long, room)) in
    let final : get_or field (length field - 1) 0 ≡ q = last_byte upto start (omega (arith, room)) ∙ last in
    let ends : ends_with nat_eq field (q ∷ []) ≡ true =
    ap (λ (l : List ℕ). pointwise nat_eq (q ∷ []) l) back ∙ ap₂ (λ t (l : List ℕ). t && pointwise nat_eq [] l) (ap (nat_eq q) final ∙ same_nat q) none in
    let two : nat_le 2 (length field) ≡ true = grind (arith, nat_tests, long, room) in
    ap₂ (λ a b. a && b) two ends

pub inside_at : (upto : List ℕ) (start : ℕ) → start + 2 ≤ length upto → drop (start + 1) (take (length upto - 1) upto) ≡ inside (drop start upto)
inside_at upto start room =
    let long : length (drop start upto) ≡ length upto - start = length-drop start upto in
    let count : length upto - 1 ≡ start + 1 + (length (drop start upto) - 2) = omega (arith, long, room) in
    ap (λ n. drop (start + 1) (take n upto)) count ∙ drop-take (start + 1) (length (drop start upto) - 2) upto
    ∙ ap (take (length (drop start upto) - 2)) (sym (drop-drop 1 start upto))
