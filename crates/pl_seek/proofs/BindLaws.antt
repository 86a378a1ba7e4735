-- Whether an index is another one.
use Rattle.std.proofs.Common.{◌≡◌, ℕ, Bool, true, false, not, ◌==◌, ◌||◌, List, [], ◌∷◌, length, None, refl, sym, ◌∙◌, subst, arith}
use Rattle.std.proofs.lemmas.Bool.Decides.{nat_tests}
use Rattle.std.specs.List.{list_any, zip}
use Rattle.pl_frame.proofs.SchemaLaws.{none_passes}
use Rattle.std.specs.Int.{div_ceil}
use Rattle.pl_seek.specs.Index.{Index}
use Rattle.pl_seek.specs.Binding.{HaveSameSettings, first_difference}

-- lists of one length in which no place differs
same-places : (xs ys : List ℕ) → length xs ≡ length ys → list_any (λ (pair : ℕ × ℕ). not (pair.0 == pair.1)) (zip xs ys) ≡ false → xs ≡ ys
same-places [] [] size none = refl
same-places [] (y ∷ ys) size none = absurd (omega arith)
same-places (x ∷ xs) [] size none = absurd (omega arith)
same-places (x ∷ xs) (y ∷ ys) size none = by (x == y) refl (λ rest. same-places xs ys (omega arith) rest)
  where
    by : (t : Bool) → (x == y) ≡ t → (list_any (λ (pair : ℕ × ℕ). not (pair.0 == pair.1)) (zip xs ys) ≡ false → xs ≡ ys) → x ∷ xs ≡ y ∷ ys
    by true e deeper =
        let one : x ≡ y = grind (arith, nat_tests) in
        let rest : list_any (λ (pair : ℕ × ℕ). not (pair.0 == pair.1)) (zip xs ys) ≡ false = subst (λ t. (not t || list_any (λ (pair : ℕ × ℕ). not (pair.0 == pair.1)) (zip xs ys)) ≡ false) e none in
        (λ i. one i ∷ deeper rest i)
    by false e deeper =
        let no : (not false || list_any (λ (pair : ℕ × ℕ). not (pair.0 == pair.1)) (zip xs ys)) ≡ false = subst (λ t. (not t || list_any (λ (pair : ℕ × ℕ). not (pair.0 == pair.1)) (zip xs ys)) ≡ false) e none in
        absurd (cc)

-- an index that does not differ is the other one
pub same-index : (i own : Index) → i.every ≡ own.every → i.digest ≡ own.digest → HaveSameSettings i own → first_difference i.places own.places ≡ None → i.records ≡ own.records
    → length i.places ≡ div_ceil i.records i.every → length own.places ≡ div_ceil own.records own.every → i ≡ own
same-index i own every digest settings none records size own_size =
    let sizes : length i.places ≡ length own.places = size ∙ (λ k. div_ceil (records k) (every k)) ∙ sym own_size in
    let places : i.places ≡ own.places = same-places i.places own.places sizes (none_passes (λ (pair : ℕ × ℕ). not (pair.0 == pair.1)) (zip i.places own.places) none) in
    (λ k. record { digest = digest k; settings = settings.0 k; comment_prefix = settings.1 k; every = every k; records = records k; places = places k })
