-- Fields of columns that are not read: where they end, it is enough that no mark stands before, or that all stands between quotes.
use Rattle.std.proofs.Common.{◌≡◌, ℕ, zero, suc, ◌+◌, ◌-◌, ◌<◌, ◌≤◌, Bool, true, false, not, ◌==◌, List, [], ◌∷◌, length, take, drop, get_or, Option, None, Some, refl, sym, ap, ◌∙◌, inl, inr, arith, append-nil}
use Rattle.std.specs.Prelude.{IfSome}
use Rattle.std.specs.List.{list_all, prefix_len, slice_range}
use Rattle.std.proofs.lemmas.Bool.Decides.{nat_tests}
use Rattle.std.proofs.lemmas.List.{get_or-take, length-drop, take_rest}
use Rattle.memchr.specs.Find.{NoneBefore, Passes, is_byte2}
use Rattle.pl_text.specs.FrameText.{quoted}
use Rattle.pl_scan.specs.Fields.{is_plain, begins_quoted}
use Rattle.pl_verbatim.specs.CellTexts.{IsBetweenQuotes}
use Rattle.pl_verbatim.specs.Changes.{IsAnyField, field_marks}
use Rattle.pl_verbatim.proofs.NumberLaws.{slice-cons}
use Rattle.pl_verbatim.proofs.RowLaws.{nothing}
use Rattle.pl_verbatim.proofs.TextLaws.{is_stop, front_is, none_before}

-- of a text nothing is known
abbrev pub IsAny : List ℕ → Type 0
IsAny text = Unit {0}

-- ---- fields without quotes

all_in_front : (p : ℕ → Bool) (xs : List ℕ) (n : ℕ) → ((k : ℕ) → k < n → p (get_or xs k 0) ≡ true) → list_all p (take n xs) ≡ true
all_in_front p xs zero all = refl
all_in_front p [] (suc n) all = refl
all_in_front p (x ∷ xs) (suc n) all = rw (all 0 (omega arith)) (all_in_front p xs n (λ k h. all (suc k) (omega arith)))

all-plain : (s q : ℕ) (text : List ℕ) (at count : ℕ) → ((k : ℕ) → k < count → is_plain (field_marks s q) (get_or (drop at text) k 0) ≡ true)
    → list_all (is_plain (field_marks s q)) (slice_range text at (at + count)) ≡ true
all-plain s q text at count all = ap (list_all (is_plain (field_marks s q))) (front_is text at count) ∙ all_in_front (is_plain (field_marks s q)) (drop at text) count all

-- up to the first byte that ends a text without quotes
pub plain-front : (s q : ℕ) (text : List ℕ) (at count : ℕ) → at + 32 ≤ length text → count ≡ prefix_len (λ x. not (is_stop s q x)) (slice_range text at (at + 32)) → count < 32
    → list_all (is_plain (field_marks s q)) (slice_range text at (at + count)) ≡ true
plain-front s q text at count room is few =
    all-plain s q text at count
    (λ k below.
    let same : get_or (slice_range text at (at + 32)) k 0 ≡ get_or (drop at text) k 0 = ap (λ l. get_or l k 0) (front_is text at 32) ∙ get_or-take 32 (drop at text) k 0 (omega (arith, few, below)) in
    by (get_or (drop at text) k 0) (ap (is_stop s q) (sym same) ∙ none_before (is_stop s q) (slice_range text at (at + 32)) k (omega (arith, is, below))))
  where
    by : (x : ℕ) → is_stop s q x ≡ false → is_plain (field_marks s q) x ≡ true
    by x e = grind (arith, nat_tests, e)

-- the next mark from a place on stands so many bytes behind it
abbrev pub IsNextMark : ℕ → List ℕ → ℕ → ℕ → Type 0
IsNextMark s text at count =
    let rest = slice_range text at (length text) in
    NoneBefore (Passes (is_byte2 s 10) rest) 0 (length rest) count × Passes (is_byte2 s 10) rest count

-- up to it
pub plain-next : (s q : ℕ) (text : List ℕ) (at count : ℕ) → IsNextMark s text at count → list_all (is_plain (field_marks s q)) (slice_range text at (at + count)) ≡ true
plain-next s q text at count found =
    all-plain s q text at count
    (λ k below. ap (λ l. is_plain (field_marks s q) (get_or l k 0)) (sym (take_rest text at)) ∙ by _ (found.0.before k (omega arith) below))
  where
    by : (x : ℕ) → (is_byte2 s 10 x ≡ true → ⊥) → is_plain (field_marks s q) x ≡ true
    by x other = none (is_byte2 s 10 x) refl
      where
        none : (t : Bool) → is_byte2 s 10 x ≡ t → not t ≡ true
        none true e = absurd (other e)
        none false e = refl

pub next-within : (s : ℕ) (text : List ℕ) (at count : ℕ) → at ≤ length text → IsNextMark s text at count → at + count < length text
next-within s text at count inside found =
    let long : length (slice_range text at (length text)) ≡ length text - at = ap length (take_rest text at) ∙ length-drop at text in
    omega (arith, found.0.high, long, inside)

-- it does not begin with a quote
bare-any : (s q : ℕ) (text : List ℕ) (at end : ℕ) → at < length text → at ≤ end → (get_or text at 0 ≡ q → ⊥) → list_all (is_plain (field_marks s q)) (slice_range text at end) ≡ true
    → IsAnyField s q (slice_range text at end)
bare-any s q text at end inside after other plain = inr (by (end - at) refl, plain)
  where
    begins : (t : Bool) → (get_or text at 0 == q) ≡ t → t ≡ false
    begins true e = absurd (other (grind (arith, nat_tests, e)))
    begins false e = refl

    by : (n : ℕ) → end - at ≡ n → begins_quoted (Some q) (slice_range text at end) ≡ false
    by zero e = let same : end ≡ at = omega (arith, e, after) in ap (begins_quoted (Some q)) (ap (slice_range text at) same ∙ nothing text at)
    by (suc n) e = ap (begins_quoted (Some q)) (slice-cons text at end inside (omega (arith, e))) ∙ begins _ refl

-- the same where it may not be found
pub bare-field : (s q : ℕ) (text : List ℕ) (at : ℕ) (found : Option ℕ) → at < length text → (get_or text at 0 ≡ q → ⊥) → IfSome found (λ end. at ≤ end)
    → IfSome found (λ end. list_all (is_plain (field_marks s q)) (slice_range text at end) ≡ true) → IfSome found (λ end. IsAnyField s q (slice_range text at end))
bare-field s q text at None inside other after plain = tt
bare-field s q text at (Some end) inside other after plain = bare-any s q text at end inside after other plain

-- ---- fields between quotes

pub quoted-any : (s q : ℕ) (text : List ℕ) → IsBetweenQuotes q text → IsAnyField s q text
quoted-any s q text (inner, is) = inl (q, inner, [], refl, is ∙ sym (append-nil (quoted q inner)), refl)
