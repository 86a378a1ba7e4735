-- Codes by first appearance.
use Rattle.std.proofs.Common.{◌≡◌, ℕ, Bool, true, false, cond, ◌||◌, List, [], ◌∷◌, ◌++◌, length, refl, ◌∙◌, ap}
use Rattle.std.specs.Prelude.{Option, None, Some, position}
use Rattle.std.specs.List.{list_any, fold}
use Rattle.std.specs.Str.{bytes_eq}
use Rattle.pl_frame.specs.Categories.{with_text, dictionary_of, is_this, CodesFollowFirstAppearance}
use Rattle.pl_frame.proofs.CategoryLaws.{known, place-more, place-new}

-- the texts of values, one after another
fold-append : (d : List (List ℕ)) (front others : List (Option (List ℕ))) → fold with_text d (front ++ others) ≡ fold with_text (fold with_text d front) others
fold-append d [] others = refl
fold-append d (value ∷ front) others = fold-append (with_text d value) front others

any-append : (p : List ℕ → Bool) (xs ys : List (List ℕ)) → list_any p (xs ++ ys) ≡ (list_any p xs || list_any p ys)
any-append p [] ys = refl
any-append p (x ∷ xs) ys = by (p x) (any-append p xs ys)
  where
    by : (t : Bool) → list_any p (xs ++ ys) ≡ (list_any p xs || list_any p ys) → (t || list_any p (xs ++ ys)) ≡ ((t || list_any p xs) || list_any p ys)
    by true deeper = refl
    by false deeper = deeper

-- a text that is not there is not there after another one
absent-more : (text other : List ℕ) (d : List (List ℕ)) → list_any (bytes_eq text) d ≡ false → bytes_eq text other ≡ false → list_any (bytes_eq text) (with_text d (Some other)) ≡ false
absent-more text other d none apart = by (list_any (bytes_eq other) d)
  where
    by : (t : Bool) → list_any (bytes_eq text) (cond t d (d ++ other ∷ [])) ≡ false
    by true = none
    by false = any-append (bytes_eq text) d (other ∷ []) ∙ ap (λ t. t || (bytes_eq text other || false)) none ∙ ap (λ t. t || false) apart

or_none : (t u : Bool) → (t || u) ≡ false → (t ≡ false) × (u ≡ false)
or_none true u e = cc
or_none false u e = (refl, e)

-- and not after values of which none is it
absent : (text : List ℕ) (d : List (List ℕ)) (front : List (Option (List ℕ))) → list_any (bytes_eq text) d ≡ false → list_any (is_this text) front ≡ false
    → list_any (bytes_eq text) (fold with_text d front) ≡ false
absent text d [] none free = none
absent text d (None ∷ front) none free = absent text d front none free
absent text d (Some other ∷ front) none free =
    let parts = or_none (bytes_eq text other) (list_any (is_this text) front) free in
    absent text (with_text d (Some other)) front (absent-more text other d none parts.0) parts.1

no-place : (text : List ℕ) (d : List (List ℕ)) → list_any (bytes_eq text) d ≡ false → position (bytes_eq text) d ≡ None
no-place text d none = by (position (bytes_eq text) d) refl
  where
    by : (o : Option ℕ) → position (bytes_eq text) d ≡ o → position (bytes_eq text) d ≡ None
    by None e = e
    by (Some k) e = let there = known d text k e in absurd (cc)

-- a text keeps its place, whatever comes
pub place-stays : (text : List ℕ) (k : ℕ) (d : List (List ℕ)) (others : List (Option (List ℕ))) → position (bytes_eq text) d ≡ Some k → position (bytes_eq text) (fold with_text d others) ≡ Some k
place-stays text k d [] there = there
place-stays text k d (None ∷ others) there = place-stays text k d others there
place-stays text k d (Some other ∷ others) there = place-stays text k (with_text d (Some other)) others (by (list_any (bytes_eq other) d))
  where
    by : (t : Bool) → position (bytes_eq text) (cond t d (d ++ other ∷ [])) ≡ Some k
    by true = there
    by false = place-more d other text k there

pub codes_by_appearance : CodesFollowFirstAppearance
codes_by_appearance front others text free =
    let d = dictionary_of front in
    let none : list_any (bytes_eq text) d ≡ false = absent text [] front refl free in
    let here : with_text d (Some text) ≡ d ++ text ∷ [] = ap (λ t. cond t d (d ++ text ∷ [])) none in
    ap (position (bytes_eq text)) (fold-append [] front (Some text ∷ others))
    ∙ ap (λ l. position (bytes_eq text) (fold with_text l others)) here
    ∙ place-stays text (length d) (d ++ text ∷ []) others (place-new d text (no-place text d none))
