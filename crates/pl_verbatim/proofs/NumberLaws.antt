-- Digits without a zero in front are those of their number.
use Rattle.std.proofs.Common.{◌≡◌, ℕ, suc, ◌+◌, ◌-◌, ◌*◌, ◌/◌, ◌%◌, ◌^◌, ◌<◌, ◌≤◌, Bool, true, false, cond, List, [], ◌∷◌, ◌++◌, length, take, drop, get_or, take-add, refl, sym, ap, ap₂, ◌∙◌, append_assoc, arith, lit<}
use Rattle.std.specs.Prelude.{decimal, slice_range}
use Rattle.std.specs.Char.{is_ascii_digit}
use Rattle.std.specs.List.{prefix_len}
use Rattle.std.specs.Str.{all_ascii_digits}
use Rattle.std.proofs.Math.Nat.{pow-le-pow_right}
use Rattle.std.proofs.lemmas.Bool.Decides.{nat_tests}
use Rattle.std.proofs.lemmas.List.{length-take-le, length-drop, drop_more, drop-drop, get_or-take, get_or-drop}
use Rattle.std.proofs.lemmas.List.Sums.{prefix_len-le-length}
use Rattle.std.proofs.lemmas.Fmt.{decimal_digit, decimal_step_wide}
use mathlib.Core.List.{append-nil}
use Rattle.pl_cells.specs.Integers.{number_after, number_of}
use Rattle.pl_cells.proofs.IntegerLaws.{and_true, number_after-ge, number_after-small}

-- ---- one digit

pub digit_near : (x : ℕ) → is_ascii_digit x ≡ true → (48 ≤ x) × (x ≤ 57)
digit_near x digit = grind (arith, nat_tests, digit)

-- a digit behind a number of at least one
next-digit : (n x : ℕ) → 0 < n → is_ascii_digit x ≡ true → n * 10 + (x - 48) < 10 ^ 64 → decimal (n * 10 + (x - 48)) ≡ decimal n ++ x ∷ []
next-digit n x some digit small =
    let near = digit_near x digit in
    let front : (n * 10 + (x - 48)) / 10 ≡ n = omega (arith, near.0, near.1) in
    let last : 48 + (n * 10 + (x - 48)) % 10 ≡ x = omega (arith, near.0, near.1) in
    decimal_step_wide (n * 10 + (x - 48)) (omega (arith, some)) small ∙ ap₂ (λ (a b : ℕ). decimal a ++ b ∷ []) front last

-- ---- all

-- digits behind a number of at least one
decimal-after : (n : ℕ) (xs : List ℕ) → 0 < n → all_ascii_digits xs ≡ true → number_after n xs < 10 ^ 64 → decimal (number_after n xs) ≡ decimal n ++ xs
decimal-after n [] some all small = sym (append-nil (decimal n))
decimal-after n (x ∷ xs) some all small =
    let parts = and_true (is_ascii_digit x) (all_ascii_digits xs) all in
    decimal-after (n * 10 + (x - 48)) xs (omega (arith, some)) parts.1 small
    ∙ ap (λ (l : List ℕ). l ++ xs) (next-digit n x some parts.0 (omega (arith, small, number_after-ge (n * 10 + (x - 48)) xs)))
    ∙ append_assoc (decimal n) (x ∷ []) xs

-- so many digits write less than ten to their number
pub number-few : (xs : List ℕ) (k : ℕ) → all_ascii_digits xs ≡ true → length xs ≤ k → number_of xs < 10 ^ k
number-few xs k all few = omega (arith, number_after-small 0 xs all, pow-le-pow_right {n = 10} (lit< tt) {i = length xs} {j = k} few)

-- a number whose first digit is no zero is at least one
pub number-some : (xs : List ℕ) → all_ascii_digits xs ≡ true → (get_or xs 0 0 ≡ 48 → ⊥) → 0 < length xs → 0 < number_of xs
number-some [] all other some = absurd (omega arith)
number-some (x ∷ xs) all other some =
    let near = digit_near x (and_true (is_ascii_digit x) (all_ascii_digits xs) all).0 in
    let above : 48 < x = omega (arith, near.0, other) in
    omega (arith, above, number_after-ge (0 * 10 + (x - 48)) xs)

-- one digit
pub decimal-one : (x : ℕ) → is_ascii_digit x ≡ true → decimal (0 * 10 + (x - 48)) ≡ x ∷ []
decimal-one x digit =
    let near = digit_near x digit in
    let same : 48 + (0 * 10 + (x - 48)) ≡ x = omega (arith, near.0) in
    decimal_digit (0 * 10 + (x - 48)) (omega (arith, near.1)) ∙ ap (λ (d : ℕ). d ∷ []) same

-- digits, of which the first is no zero
pub decimal-some : (xs : List ℕ) → 0 < length xs → length xs ≤ 64 → all_ascii_digits xs ≡ true → (get_or xs 0 0 ≡ 48 → ⊥) → decimal (number_of xs) ≡ xs
decimal-some [] some few all other = absurd (omega arith)
decimal-some (x ∷ xs) some few all other =
    let parts = and_true (is_ascii_digit x) (all_ascii_digits xs) all in
    let near = digit_near x parts.0 in
    let above : 0 < 0 * 10 + (x - 48) = omega (arith, near.0, other) in
    decimal-after (0 * 10 + (x - 48)) xs above parts.1 (number-few (x ∷ xs) 64 all few)
    ∙ ap (λ (l : List ℕ). l ++ xs) (decimal-one x parts.0)

-- digits, of which the first is a zero only where it is the only one
pub decimal-is : (xs : List ℕ) → 0 < length xs → length xs ≤ 64 → all_ascii_digits xs ≡ true → (get_or xs 0 0 ≡ 48 → length xs ≡ 1) → decimal (number_of xs) ≡ xs
decimal-is [] some few all lead = absurd (omega arith)
decimal-is (x ∷ []) some few all lead = decimal-one x (and_true (is_ascii_digit x) true all).0
decimal-is (x ∷ y ∷ xs) some few all lead = decimal-some (x ∷ y ∷ xs) some few all (λ (e : x ≡ 48). omega (arith, lead e))

-- ---- the digits in front

pub digits-front : (xs : List ℕ) → all_ascii_digits (take (prefix_len is_ascii_digit xs) xs) ≡ true
digits-front [] = refl
digits-front (x ∷ xs) = by (is_ascii_digit x) refl (digits-front xs)
  where
    by : (t : Bool) → is_ascii_digit x ≡ t → all_ascii_digits (take (prefix_len is_ascii_digit xs) xs) ≡ true → all_ascii_digits (take (cond t (1 + prefix_len is_ascii_digit xs) 0) (x ∷ xs)) ≡ true
    by true e rest =
        let more : 1 + prefix_len is_ascii_digit xs ≡ suc (prefix_len is_ascii_digit xs) = omega arith in
        ap (λ (n : ℕ). all_ascii_digits (take n (x ∷ xs))) more ∙ rw (e, rest) refl
    by false e rest = refl

-- ---- places

pub slice-cons : (text : List ℕ) (at end : ℕ) → at < length text → at < end → slice_range text at end ≡ get_or text at 0 ∷ slice_range text (at + 1) end
slice-cons text at end inside some =
    let more : end - at ≡ suc (end - (at + 1)) = omega arith in
    ap (λ (n : ℕ). take n (drop at text)) more ∙ ap (take (suc (end - (at + 1)))) (drop_more text at 0 inside)

-- digits stand from one place to another
pub record DigitsAt (text : List ℕ) (from end : ℕ) : Type 0 where
  pub low : from ≤ end
  pub inside : end ≤ length text
  pub long : length (slice_range text from end) ≡ end - from
  pub all : all_ascii_digits (slice_range text from end) ≡ true
  pub first : from < end → get_or (slice_range text from end) 0 0 ≡ get_or text from 0

pub digits-at : (text : List ℕ) (from end : ℕ) → from ≤ length text → end ≡ from + prefix_len is_ascii_digit (drop from text) → DigitsAt text from end
digits-at text from end inside ends =
    let rest = drop from text in
    let left : length rest ≡ length text - from = length-drop from text in
    let count : end - from ≡ prefix_len is_ascii_digit rest = omega (arith, ends) in
    let few : end - from ≤ length rest = omega (arith, count, prefix_len-le-length is_ascii_digit rest) in
    record {
      low = omega (arith, ends);
      inside = omega (arith, few, left, ends, inside);
      long = length-take-le (end - from) rest few;
      all = ap (λ (n : ℕ). all_ascii_digits (take n rest)) count ∙ digits-front rest;
      first = λ (some : from < end). get_or-take (end - from) rest 0 0 (omega (arith, some)) ∙ get_or-drop from text 0 0 ∙ ap (λ (n : ℕ). get_or text n 0) (omega arith);
    }

-- so do all bytes between two places that are digits
pub digits-between : (text : List ℕ) (from end : ℕ) → from ≤ end → end ≤ length text → all_ascii_digits (slice_range text from end) ≡ true → DigitsAt text from end
digits-between text from end low inside all =
    let rest = drop from text in
    let left : length rest ≡ length text - from = length-drop from text in
    record {
      low = low;
      inside = inside;
      long = length-take-le (end - from) rest (omega (arith, left, inside));
      all = all;
      first = λ (some : from < end). get_or-take (end - from) rest 0 0 (omega (arith, some)) ∙ get_or-drop from text 0 0 ∙ ap (λ (n : ℕ). get_or text n 0) (omega arith);
    }

-- from one place to a second, and from there to a third
pub slice-parts : (text : List ℕ) (from middle end : ℕ) → from ≤ middle → middle ≤ end → slice_range text from end ≡ slice_range text from middle ++ slice_range text middle end
slice-parts text from middle end low high =
    let sum : end - from ≡ (middle - from) + (end - middle) = omega arith in
    let there : from + (middle - from) ≡ middle = omega arith in
    ap (λ (n : ℕ). take n (drop from text)) sum
    ∙ take-add (middle - from) (end - middle) (drop from text)
    ∙ ap (λ (l : List ℕ). slice_range text from middle ++ take (end - middle) l) (drop-drop (middle - from) from text ∙ ap (λ (n : ℕ). drop n text) (omega arith))
