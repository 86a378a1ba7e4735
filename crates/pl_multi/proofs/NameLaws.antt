-- Names of values, compared.
use Rattle.std.proofs.Common.{◌≡◌, ℕ, zero, suc, ◌<◌, Bool, true, false, ◌&&◌, not, List, [], ◌∷◌, map, length, get_or, refl, ◌∙◌, ap, arith}
use Rattle.std.specs.Cmp.Lexicographic.{pointwise}
use Rattle.std.specs.Str.{bytes_eq}

pub no_value : List ℕ × List ℕ
no_value = ([], [])

both : (b : Bool) (other : Bool) → b ≡ true → other ≡ true → (b && other) ≡ true
both b other e f = (λ i. e i && f i)

pub names-all : (xs ys : List (List ℕ × List ℕ)) → length xs ≡ length ys → ((k : ℕ) → k < length xs → bytes_eq (get_or xs k no_value).0 (get_or ys k no_value).0 ≡ true) → pointwise bytes_eq (map (λ (value : List ℕ × List ℕ). value.0) xs) (map (λ (value : List ℕ × List ℕ). value.0) ys) ≡ true
names-all [] [] e h = refl
names-all [] (y ∷ ys) e h = absurd (omega arith)
names-all (x ∷ xs) [] e h = absurd (omega arith)
names-all (x ∷ xs) (y ∷ ys) e h = both (bytes_eq x.0 y.0) (pointwise bytes_eq (map (λ (value : List ℕ × List ℕ). value.0) xs) (map (λ (value : List ℕ × List ℕ). value.0) ys)) (h zero (omega arith)) (names-all xs ys (omega arith) (λ k l. h (suc k) (omega arith)))

pub names-differ : (xs ys : List (List ℕ × List ℕ)) (k : ℕ) → k < length xs → k < length ys → bytes_eq (get_or xs k no_value).0 (get_or ys k no_value).0 ≡ false → pointwise bytes_eq (map (λ (value : List ℕ × List ℕ). value.0) xs) (map (λ (value : List ℕ × List ℕ). value.0) ys) ≡ false
names-differ [] ys k l m e = absurd (omega arith)
names-differ (x ∷ xs) [] k l m e = absurd (omega arith)
names-differ (x ∷ xs) (y ∷ ys) zero l m e = ap (λ b. b && pointwise bytes_eq (map (λ (value : List ℕ × List ℕ). value.0) xs) (map (λ (value : List ℕ × List ℕ). value.0) ys)) e
names-differ (x ∷ xs) (y ∷ ys) (suc k) l m e = (λ i. bytes_eq x.0 y.0 && names-differ xs ys k (omega arith) (omega arith) e i) ∙ none (bytes_eq x.0 y.0)
  where
    none : (b : Bool) → (b && false) ≡ false
    none true = refl
    none false = refl

pub names-long : (xs ys : List (List ℕ × List ℕ)) → (length xs ≡ length ys → ⊥) → pointwise bytes_eq (map (λ (value : List ℕ × List ℕ). value.0) xs) (map (λ (value : List ℕ × List ℕ). value.0) ys) ≡ false
names-long [] [] h = absurd (h refl)
names-long [] (y ∷ ys) h = refl
names-long (x ∷ xs) [] h = refl
names-long (x ∷ xs) (y ∷ ys) h = (λ i. bytes_eq x.0 y.0 && names-long xs ys (λ e. h (omega (arith, e))) i) ∙ none (bytes_eq x.0 y.0)
  where
    none : (b : Bool) → (b && false) ≡ false
    none true = refl
    none false = refl

pub not-true : (b : Bool) → true ≡ not b → b ≡ false
not-true true e = absurd (cc)
not-true false e = refl
