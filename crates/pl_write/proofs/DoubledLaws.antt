-- Doubling the quotes of a text.
use Rattle.std.proofs.Common.{◌≡◌, ℕ, zero, suc, ◌<◌, ◌≤◌, Bool, true, false, not, ◌==◌, List, [], ◌∷◌, ◌++◌, length, take, drop, get_or, refl, ◌∙◌, ap, append-nil, add-zero, length-drop, arith}
use Rattle.std.proofs.lemmas.List.{take_all, drop_all, get_or-drop}
use Rattle.std.proofs.lemmas.Bool.Decides.{nat_tests}
use Rattle.std.specs.List.{prefix_len}
use Rattle.memchr.specs.Find.{Nowhere, Passes, is_byte}
use Rattle.pl_text.specs.FrameText.{doubled}

not_true : (t : Bool) → (t ≡ true → ⊥) → t ≡ false
not_true true h = absurd (h refl)
not_true false h = refl

-- what holds no quote stays
pub doubled-pass : (q : ℕ) (xs : List ℕ) (n : ℕ) → Nowhere (Passes (is_byte q) xs) 0 n → n ≤ length xs → doubled q xs ≡ take n xs ++ doubled q (drop n xs)
doubled-pass q xs zero none fits = refl
doubled-pass q [] (suc n) none fits = absurd (omega arith)
doubled-pass q (x ∷ xs) (suc n) none fits =
    let here : (x == q) ≡ false = not_true (x == q) (none 0 (omega arith) (omega arith)) in
    let later : Nowhere (Passes (is_byte q) xs) 0 n = λ k low high. none (suc k) (omega arith) (omega arith) in
    rw here (ap (λ l. x ∷ l) (doubled-pass q xs n later (omega arith)))

pub doubled-none : (q : ℕ) (xs : List ℕ) → Nowhere (Passes (is_byte q) xs) 0 (length xs) → doubled q xs ≡ xs
doubled-none q xs none =
    doubled-pass q xs (length xs) none (omega arith) ∙ rw (take_all (length xs) xs (omega arith), drop_all (length xs) xs (omega arith)) (append-nil xs)

pub doubled-quote : (q : ℕ) (xs : List ℕ) → 0 < length xs → get_or xs 0 0 ≡ q → doubled q xs ≡ (q ∷ q ∷ []) ++ doubled q (drop 1 xs)
doubled-quote q [] some is = absurd (omega arith)
doubled-quote q (x ∷ xs) some is = let same : (x == q) ≡ true = grind (arith, nat_tests) in rw same refl

-- up to and with the first quote
pub doubled-step : (q : ℕ) (xs : List ℕ) (n : ℕ) → Nowhere (Passes (is_byte q) xs) 0 n → n < length xs → get_or xs n 0 ≡ q
    → doubled q xs ≡ take n xs ++ ((q ∷ q ∷ []) ++ doubled q (drop 1 (drop n xs)))
doubled-step q xs n none fits is =
    doubled-pass q xs n none (omega arith)
    ∙ ap (λ l. take n xs ++ l) (doubled-quote q (drop n xs) (omega (arith, length-drop n xs)) (get_or-drop n xs 0 0 ∙ rw add-zero is))

-- the first bytes, before the first quote, stay
pub doubled-before : (q : ℕ) (xs : List ℕ) (n : ℕ) → n ≤ prefix_len (λ x. not (x == q)) xs → doubled q (take n xs) ≡ take n xs
doubled-before q xs zero before = refl
doubled-before q [] (suc n) before = refl
doubled-before q (x ∷ xs) (suc n) before = by (x == q) refl (λ rest. doubled-before q xs n rest)
  where
    by : (t : Bool) → (x == q) ≡ t → (n ≤ prefix_len (λ y. not (y == q)) xs → doubled q (take n xs) ≡ take n xs) → doubled q (take (suc n) (x ∷ xs)) ≡ take (suc n) (x ∷ xs)
    by true e rest = absurd (omega (arith, rw e at before))
    by false e rest = rw e (ap (λ l. x ∷ l) (rest (omega (arith, rw e at before))))
