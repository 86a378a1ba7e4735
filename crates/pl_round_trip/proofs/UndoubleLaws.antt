-- Quotes that are doubled and undoubled.
use Rattle.std.proofs.Common.{◌≡◌, ℕ, Bool, true, false, ◌==◌, List, [], ◌∷◌, ◌++◌, ◌&&◌, ◌-◌, suc, length, take, drop, nat_eq, nat_le, length-append, refl, ◌∙◌, ap, arith}
use Rattle.std.proofs.lemmas.Bool.Decides.{nat_tests}
use Rattle.std.specs.Cmp.Lexicographic.{pointwise}
use Rattle.std.specs.List.{ends_with}
use Rattle.pl_text.specs.FrameText.{doubled, quoted}
use Rattle.pl_cells.specs.Quoting.{is_well_quoted, inside, undouble}
use Rattle.pl_cells.proofs.QuotingLaws.{undouble-other}
use Rattle.pl_round_trip.proofs.PartLaws.{take-front, drop-front}

undouble-pair : (q : ℕ) (xs : List ℕ) → (q == q) ≡ true → undouble q (q ∷ q ∷ xs) ≡ q ∷ undouble q xs
undouble-pair q xs e = by (q == q) (q == q) e e
  where
    by : (s t : Bool) → s ≡ true → t ≡ true → elim s [ true ↦ elim t [ true ↦ q ∷ undouble q xs | false ↦ undouble q (q ∷ xs) ] | false ↦ q ∷ undouble q (q ∷ xs) ] ≡ q ∷ undouble q xs
    by true true g h = refl
    by true false g h = cc
    by false t g h = cc

doubled-quote : (q x : ℕ) (xs : List ℕ) → (x == q) ≡ true → doubled q (x ∷ xs) ≡ q ∷ q ∷ doubled q xs
doubled-quote q x xs e = rw e refl

pub doubled-other : (q x : ℕ) (xs : List ℕ) → (x == q) ≡ false → doubled q (x ∷ xs) ≡ x ∷ doubled q xs
doubled-other q x xs e = rw e refl

pub undouble-doubled : (q : ℕ) (text : List ℕ) → undouble q (doubled q text) ≡ text
undouble-doubled q [] = refl
undouble-doubled q (x ∷ xs) = by (x == q) refl (undouble-doubled q xs)
  where
    by : (t : Bool) → (x == q) ≡ t → undouble q (doubled q xs) ≡ xs → undouble q (doubled q (x ∷ xs)) ≡ x ∷ xs
    by true e before =
        let same : (q == q) ≡ true = grind (arith, nat_tests) in
        let is : q ≡ x = grind (arith, nat_tests, e) in
        ap (undouble q) (doubled-quote q x xs e) ∙ undouble-pair q (doubled q xs) same ∙ ap (λ l. q ∷ l) before ∙ ap (λ y. y ∷ xs) is
    by false e before = ap (undouble q) (doubled-other q x xs e) ∙ undouble-other q x (doubled q xs) e ∙ ap (λ l. x ∷ l) before

-- ---- between quotes

pub quoted-length : (q : ℕ) (body : List ℕ) → length (q ∷ (body ++ q ∷ [])) ≡ suc (suc (length body))
quoted-length q body = omega (arith, length-append body (q ∷ []))

pub inside-quotes : (q : ℕ) (body : List ℕ) → inside (q ∷ (body ++ q ∷ [])) ≡ body
inside-quotes q body =
    let all : length (q ∷ (body ++ q ∷ [])) - 2 ≡ length body = omega (arith, quoted-length q body) in
    ap (λ k. take k (body ++ q ∷ [])) all ∙ take-front (length body) body (q ∷ []) refl

ends-with_quote : (q : ℕ) (body : List ℕ) → ends_with nat_eq (q ∷ (body ++ q ∷ [])) (q ∷ []) ≡ true
ends-with_quote q body =
    let same : (q == q) ≡ true = grind (arith, nat_tests) in
    let all : length (q ∷ (body ++ q ∷ [])) - 1 ≡ suc (length body) = omega (arith, quoted-length q body) in
    ap (λ k. pointwise nat_eq (q ∷ []) (drop k (q ∷ (body ++ q ∷ [])))) all ∙ ap (pointwise nat_eq (q ∷ [])) (drop-front (length body) body (q ∷ []) refl) ∙ rw same refl

pub well-quoted : (q : ℕ) (body : List ℕ) → is_well_quoted q (q ∷ (body ++ q ∷ [])) ≡ true
well-quoted q body =
    let long : nat_le 2 (length (q ∷ (body ++ q ∷ []))) ≡ true = grind (arith, nat_tests, quoted-length q body) in
    ap (λ t. t && ends_with nat_eq (q ∷ (body ++ q ∷ [])) (q ∷ [])) long ∙ ends-with_quote q body

pub quoted-returns : (q : ℕ) (text : List ℕ) → (is_well_quoted q (quoted q text) ≡ true) × (undouble q (inside (quoted q text)) ≡ text)
quoted-returns q text = (well-quoted q (doubled q text), ap (undouble q) (inside-quotes q (doubled q text)) ∙ undouble-doubled q text)
