-- Digits that stand as a whole number is printed.
use Rattle.std.proofs.Common.{◌≡◌, ℕ, suc, pred, ◌+◌, ◌-◌, ◌<◌, ◌≤◌, Bool, true, false, List, ◌∷◌, length, drop, get_or, pos, negsuc, sym, ap, ap₂, subst, ◌∙◌, arith}
use Rattle.std.specs.Prelude.{decimal, slice_range}
use Rattle.std.specs.Str.{all_ascii_digits}
use Rattle.std.specs.Char.{is_ascii_digit}
use Rattle.std.specs.List.{prefix_len}
use mathlib.Core.Logic.{inl, inr}
use Rattle.std.proofs.lemmas.Bool.{cases_lt}
use Rattle.pl_cells.specs.Integers.{number_of}
use Rattle.pl_round_trip.proofs.PointLaws.{no_minus}
use Rattle.pl_verbatim.specs.CellTexts.{IsWholeText}
use Rattle.pl_verbatim.proofs.NumberLaws.{number-few, number-some, decimal-some, decimal-is, slice-cons, digits-at}

-- ---- texts

-- digits
pub bare : (digits : ℕ) (is_signed : Bool) (xs : List ℕ) → digits ≤ 64 → 0 < length xs → length xs ≤ digits → all_ascii_digits xs ≡ true → (get_or xs 0 0 ≡ 48 → length xs ≡ 1) → IsWholeText digits is_signed xs
bare digits is_signed xs wide some few all lead = record {
  number = pos (number_of xs);
  few = number-few xs digits all few;
  sign = λ _. no_minus (number_of xs);
  text_is = sym (decimal-is xs some (omega arith) all lead);
}

-- digits behind a minus
pub minus : (digits : ℕ) (xs : List ℕ) → digits ≤ 64 → 0 < length xs → length xs ≤ digits → all_ascii_digits xs ≡ true → (get_or xs 0 0 ≡ 48 → ⊥) → IsWholeText digits true (45 ∷ xs)
minus digits xs wide some few all other =
    let above : suc (pred (number_of xs)) ≡ number_of xs = omega (arith, number-some xs all other some) in
    record {
      number = negsuc (pred (number_of xs));
      few = omega (arith, above, number-few xs digits all few);
      sign = λ (e : true ≡ false). absurd (cc);
      text_is = ap (λ (l : List ℕ). 45 ∷ l) (sym (ap decimal above ∙ decimal-some xs some (omega arith) all other));
    }

-- ---- places

-- where the digits of a number begin: behind a minus or not
pub record BeginsAt (is_signed : Bool) (text : List ℕ) (at from : ℕ) : Type 0 where
  pub low : at ≤ from
  pub high : from ≤ at + 1
  pub minus : at < from → (is_signed ≡ true) × (get_or text at 0 ≡ 45)

pub whole-at : (digits : ℕ) (is_signed : Bool) (text : List ℕ) (at from end : ℕ) → digits ≤ 64 → at < length text → BeginsAt is_signed text at from
    → end ≡ from + prefix_len is_ascii_digit (drop from text) → (end - from ≡ 0 → ⊥) → end - from ≤ digits → (get_or text from 0 ≡ 48 → end - at ≤ 1)
    → IsWholeText digits is_signed (slice_range text at end)
whole-at digits is_signed text at from end wide inside begins ends some few lead =
    let d = digits-at text from end (omega (arith, inside, begins.high)) ends in
    let xs = slice_range text from end in
    elim (cases_lt at from) [
      | inl behind ↦
          let m = begins.minus behind in
          let next : at + 1 ≡ from = omega (arith, behind, begins.high) in
          let whole : slice_range text at end ≡ 45 ∷ xs = slice-cons text at end inside (omega (arith, some, behind)) ∙ ap₂ (λ (x k : ℕ). x ∷ slice_range text k end) m.1 next in
          let other : get_or xs 0 0 ≡ 48 → ⊥ = λ (e : get_or xs 0 0 ≡ 48). omega (arith, some, behind, lead (sym (d.first (omega (arith, some))) ∙ e)) in
          subst (λ (l : List ℕ). IsWholeText digits is_signed l) (sym whole)
          (subst (λ (t : Bool). IsWholeText digits t (45 ∷ xs)) (sym m.0) (minus digits xs wide (omega (arith, some, d.long)) (omega (arith, few, d.long)) d.all other))
      | inr same ↦
          let here : at ≡ from = omega (arith, same, begins.low) in
          let one : get_or xs 0 0 ≡ 48 → length xs ≡ 1 = λ (e : get_or xs 0 0 ≡ 48). omega (arith, some, here, d.long, lead (sym (d.first (omega (arith, some))) ∙ e)) in
          subst (λ (k : ℕ). IsWholeText digits is_signed (slice_range text k end)) (sym here) (bare digits is_signed xs wide (omega (arith, some, d.long)) (omega (arith, few, d.long)) d.all one)
    ]
