-- Undoubling, quote by quote.
use Rattle.std.proofs.Common.{◌≡◌, ℕ, zero, suc, ◌≤◌, Bool, true, false, ◌==◌, List, [], ◌∷◌, ◌++◌, length, take, drop, refl, sym, ◌∙◌, ap, append_assoc, append-nil, arith}
use Rattle.std.proofs.lemmas.List.{take_all, drop_all}
use Rattle.std.specs.Str.{IsUtf8, is_utf8}
use Rattle.std.proofs.lemmas.Str.{IsUtf8-from_is_utf8}
use Rattle.memchr.specs.Find.{Nowhere, Passes, is_byte}
use Rattle.pl_cells.specs.Quoting.{undouble}

pub undouble-other : (q x : ℕ) (xs : List ℕ) → (x == q) ≡ false → undouble q (x ∷ xs) ≡ x ∷ undouble q xs
undouble-other q x [] e = rw (e, undouble) refl
undouble-other q x (y ∷ xs) e = rw (e, undouble) refl

not_true : (t : Bool) → (t ≡ true → ⊥) → t ≡ false
not_true true h = absurd (h refl)
not_true false h = refl

-- what holds no quote stays
pub undouble-pass : (q : ℕ) (xs : List ℕ) (n : ℕ) → Nowhere (Passes (is_byte q) xs) 0 n → n ≤ length xs → undouble q xs ≡ take n xs ++ undouble q (drop n xs)
undouble-pass q xs zero none fits = refl
undouble-pass q [] (suc n) none fits = absurd (omega arith)
undouble-pass q (x ∷ xs) (suc n) none fits =
    let here : (x == q) ≡ false = not_true (x == q) (none 0 (omega arith) (omega arith)) in
    let later : Nowhere (Passes (is_byte q) xs) 0 n = λ k low high. none (suc k) (omega arith) (omega arith) in
    undouble-other q x xs here ∙ ap (λ l. x ∷ l) (undouble-pass q xs n later (omega arith))

-- what was written, and then what is left to write
pub written_more : (all to plain x rest left : List ℕ) → to ++ left ≡ all → left ≡ plain ++ (x ++ rest) → ((to ++ plain) ++ x) ++ rest ≡ all
written_more all to plain x rest left so_far next =
    append_assoc (to ++ plain) x rest ∙ append_assoc to plain (x ++ rest) ∙ ap (λ l. to ++ l) (sym next) ∙ so_far

-- a text without a quote stays
pub undouble-none : (q : ℕ) (xs : List ℕ) → Nowhere (Passes (is_byte q) xs) 0 (length xs) → undouble q xs ≡ xs
undouble-none q xs none =
    undouble-pass q xs (length xs) none (omega arith) ∙ rw (take_all (length xs) xs (omega arith), drop_all (length xs) xs (omega arith)) (append-nil xs)

pub is_utf8-not : (bs : List ℕ) → ¬ (IsUtf8 bs) → is_utf8 bs ≡ false
is_utf8-not bs h = not_true (is_utf8 bs) (λ e. h (IsUtf8-from_is_utf8 bs e))
