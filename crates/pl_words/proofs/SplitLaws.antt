-- Texts cut at an ASCII byte.
use Rattle.std.proofs.Common.{◌≡◌, ℕ, ◌+◌, ◌<◌, Bool, true, false, not, cond, if◌then◌else◌, ◌||◌, List, [], ◌∷◌, length, suc, refl, sym, ◌∙◌, ap, arith}
use Rattle.std.specs.Prelude.{Option, Some, None, MatchOption}
use Rattle.std.specs.Borrow.{Bor}
use Rattle.std.specs.List.{list_any, position_or_len, slice_split, onto_first, before_first, after_first}
use Rattle.std.specs.Option.{option_map}
use Rattle.std.proofs.lemmas.List.Splits.{slice_split-cons_no, slice_split_first}
use Rattle.std.proofs.lemmas.Str.Pattern.{IsSplitOnceResult, split_once_first}
use Rattle.pl_words.specs.Splitting.{is_byte, cut_at, parts_at}

uncut : {X : Type 0} (p : X → Bool) (xs : List X) → position_or_len p xs ≡ length xs → slice_split p xs ≡ xs ∷ []
uncut p [] e = refl
uncut p (x ∷ xs) e = by (p x) refl (uncut p xs)
  where
    by : (t : Bool) → p x ≡ t → (position_or_len p xs ≡ length xs → slice_split p xs ≡ xs ∷ []) → slice_split p (x ∷ xs) ≡ (x ∷ xs) ∷ []
    by true is deeper =
        let at : 0 ≡ suc (length xs) = sym (ap (λ t. cond (not t) (1 + position_or_len p xs) 0) is) ∙ e in absurd (omega arith)
    by false is deeper =
        let at : 1 + position_or_len p xs ≡ suc (length xs) = sym (ap (λ t. cond (not t) (1 + position_or_len p xs) 0) is) ∙ e in
        slice_split-cons_no p x xs is ∙ ap (onto_first x) (deeper (omega arith))

none_is : {X : Type 0} (p : X → Bool) (xs : List X) → position_or_len p xs ≡ length xs → list_any p xs ≡ false
none_is p [] e = refl
none_is p (x ∷ xs) e = by (p x) refl (none_is p xs)
  where
    by : (t : Bool) → p x ≡ t → (position_or_len p xs ≡ length xs → list_any p xs ≡ false) → list_any p (x ∷ xs) ≡ false
    by true is deeper =
        let at : 0 ≡ suc (length xs) = sym (ap (λ t. cond (not t) (1 + position_or_len p xs) 0) is) ∙ e in absurd (omega arith)
    by false is deeper =
        let at : 1 + position_or_len p xs ≡ suc (length xs) = sym (ap (λ t. cond (not t) (1 + position_or_len p xs) 0) is) ∙ e in
        ap (λ t. t || list_any p xs) is ∙ deeper (omega arith)

some_is : {X : Type 0} (p : X → Bool) (xs : List X) → position_or_len p xs < length xs → list_any p xs ≡ true
some_is p [] l = absurd (omega arith)
some_is p (x ∷ xs) l = by (p x) refl (some_is p xs)
  where
    by : (t : Bool) → p x ≡ t → (position_or_len p xs < length xs → list_any p xs ≡ true) → list_any p (x ∷ xs) ≡ true
    by true is deeper = ap (λ t. t || list_any p xs) is
    by false is deeper =
        let at : position_or_len p (x ∷ xs) ≡ 1 + position_or_len p xs = ap (λ t. cond (not t) (1 + position_or_len p xs) 0) is in
        ap (λ t. t || list_any p xs) is ∙ deeper (omega (arith, at, l))

-- what a cut answers, by the place of the byte
abbrev IsCut : ℕ → List ℕ → Option (Bor (List ℕ) × Bor (List ℕ)) → Type 0
IsCut mark text r =
    MatchOption r (position_or_len (is_byte mark) text ≡ length text)
    (λ x. (position_or_len (is_byte mark) text < length text) × (x.0.now ≡ before_first (is_byte mark) text) × (x.1.now ≡ after_first (is_byte mark) text))

pub parts_are : (mark : ℕ) (text : List ℕ) (r : Option (Bor (List ℕ) × Bor (List ℕ))) → mark < 128 → IsSplitOnceResult mark text r
    → MatchOption r (parts_at mark text ≡ text ∷ []) (λ cut. parts_at mark text ≡ cut.0.now ∷ parts_at mark cut.1.now)
parts_are mark text r small is = by r (split_once_first mark text r is small)
  where
    by : (r : Option (Bor (List ℕ) × Bor (List ℕ))) → IsCut mark text r
        → MatchOption r (parts_at mark text ≡ text ∷ []) (λ cut. parts_at mark text ≡ cut.0.now ∷ parts_at mark cut.1.now)
    by None h = uncut (is_byte mark) text h
    by (Some x) h = slice_split_first (is_byte mark) text 0 h.0 ∙ sym (λ j. h.1 j ∷ slice_split (is_byte mark) (h.2 j))

pub cut_is : (mark : ℕ) (text : List ℕ) (r : Option (Bor (List ℕ) × Bor (List ℕ))) → mark < 128 → IsSplitOnceResult mark text r
    → option_map (λ (cut : Bor (List ℕ) × Bor (List ℕ)). (cut.0.now, cut.1.now)) r ≡ cut_at mark text
cut_is mark text r small is = by r (split_once_first mark text r is small)
  where
    answer : Bool → Option (List ℕ × List ℕ)
    answer t = if t then Some (before_first (is_byte mark) text, after_first (is_byte mark) text) else None

    by : (r : Option (Bor (List ℕ) × Bor (List ℕ))) → IsCut mark text r
        → option_map (λ (cut : Bor (List ℕ) × Bor (List ℕ)). (cut.0.now, cut.1.now)) r ≡ cut_at mark text
    by None h = sym (ap answer (none_is (is_byte mark) text h))
    by (Some x) h = (λ j. Some (h.1 j, h.2 j)) ∙ sym (ap answer (some_is (is_byte mark) text h.0))
