-- Laws of the first place that passes a test.
use Rattle.std.proofs.Common.{◌≡◌, ℕ, zero, suc, ◌+◌, ◌<◌, Bool, true, false, cond, List, [], ◌∷◌, length, take, drop, get_or, Some, None, sym, ◌∙◌, ap, arith}
use Rattle.std.specs.Prelude.{find}
use Rattle.std.specs.Option.{option_or}
use Rattle.std.proofs.lemmas.List.{take_more, take-append-drop}
use Rattle.std.proofs.lemmas.List.Folds.{find-append}

module _ {X : Type 0} (p : X → Bool) where
  passed : (x : X) (xs : List X) (b : Bool) → p x ≡ b → find p (x ∷ xs) ≡ None → (b ≡ false) × (find p xs ≡ None)
  passed x xs true e none = let found : find p (x ∷ xs) ≡ Some x = ap (λ t. cond t (Some x) (find p xs)) e in absurd (cc)
  passed x xs false e none = let gone : find p (x ∷ xs) ≡ find p xs = ap (λ t. cond t (Some x) (find p xs)) e in (cc, sym gone ∙ none)

  -- where none passes, that at any place does not
  pub find_none : (xs : List X) (k : ℕ) (d : X) → find p xs ≡ None → k < length xs → p (get_or xs k d) ≡ false
  find_none [] k d none l = absurd (omega arith)
  find_none (x ∷ xs) zero d none l = (passed x xs (p x) (λ j. p x) none).0
  find_none (x ∷ xs) (suc k) d none l = find_none xs k d (passed x xs (p x) (λ j. p x) none).1 (omega arith)

  -- one place more that does not pass
  pub find_more : (xs : List X) (k : ℕ) (d : X) → k < length xs → find p (take k xs) ≡ None → p (get_or xs k d) ≡ false → find p (take (k + 1) xs) ≡ None
  find_more xs k d l none here =
      ap (find p) (take_more xs k d l) ∙ find-append p (take k xs) (get_or xs k d ∷ []) ∙ (λ j. option_or (none j) (cond (here j) (Some (get_or xs k d)) None))

  -- the first that passes
  pub find_first : (xs : List X) (k : ℕ) (d : X) → k < length xs → find p (take k xs) ≡ None → p (get_or xs k d) ≡ true → Some (get_or xs k d) ≡ find p xs
  find_first xs k d l none here =
      let front : find p (take (k + 1) xs) ≡ Some (get_or xs k d) =
      ap (find p) (take_more xs k d l) ∙ find-append p (take k xs) (get_or xs k d ∷ []) ∙ (λ j. option_or (none j) (cond (here j) (Some (get_or xs k d)) None)) in
      sym (ap (find p) (sym (take-append-drop (k + 1) xs)) ∙ find-append p (take (k + 1) xs) (drop (k + 1) xs) ∙ ap (λ o. option_or o (find p (drop (k + 1) xs))) front)
