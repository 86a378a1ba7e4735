-- Texts with a mark between them, one more at a time.
use Rattle.std.proofs.Common.{◌≡◌, ℕ, ◌+◌, ◌<◌, ◌==◌, cond, List, [], ◌∷◌, ◌++◌, map, length, take, get_or, refl, sym, ◌∙◌, ap, append_assoc, arith}
use Rattle.std.specs.List.{join_with_byte}
use Rattle.std.proofs.Math.Dec.{eqb-suc-zero}
use Rattle.std.proofs.lemmas.List.{take_more, map-append, length-map, length-take-le}

join-push : (s : ℕ) (x y : List ℕ) (xs : List (List ℕ)) → join_with_byte s ((x ∷ xs) ++ y ∷ []) ≡ join_with_byte s (x ∷ xs) ++ (s ∷ y)
join-push s x y [] = refl
join-push s x y (z ∷ xs) = ap (λ l. x ++ (s ∷ l)) (join-push s z y xs) ∙ sym (append_assoc x (s ∷ join_with_byte s (z ∷ xs)) (s ∷ y))

-- one text more
join-more : (s : ℕ) (xs : List (List ℕ)) (y : List ℕ) → join_with_byte s (xs ++ y ∷ []) ≡ (join_with_byte s xs ++ cond (length xs == 0) [] (s ∷ [])) ++ y
join-more s [] y = refl
join-more s (x ∷ xs) y = rw (eqb-suc-zero (length xs)) (join-push s x y xs ∙ sym (append_assoc (join_with_byte s (x ∷ xs)) (s ∷ []) y))

-- what a loop over items has put of a list with a mark between its texts
pub joined_more : {X : Type 0} (s : ℕ) (f : X → List ℕ) (xs : List X) (i : ℕ) (d : X) (old now marked after : List ℕ) → i < length xs
    → now ≡ old ++ join_with_byte s (map f (take i xs)) → marked ≡ now ++ cond (i == 0) [] (s ∷ []) → after ≡ marked ++ f (get_or xs i d)
    → after ≡ old ++ join_with_byte s (map f (take (i + 1) xs))
joined_more s f xs i d old now marked after inside so_far mark next =
    let texts = map f (take i xs) in
    let one_more : map f (take (i + 1) xs) ≡ texts ++ f (get_or xs i d) ∷ [] = ap (map f) (take_more xs i d inside) ∙ map-append f (take i xs) (get_or xs i d ∷ []) in
    let count : length texts ≡ i = length-map-take f xs i inside in
    next
    ∙ ap (λ l. l ++ f (get_or xs i d)) mark
    ∙ ap (λ l. (l ++ cond (i == 0) [] (s ∷ [])) ++ f (get_or xs i d)) so_far
    ∙ append_assoc (old ++ join_with_byte s texts) (cond (i == 0) [] (s ∷ [])) (f (get_or xs i d))
    ∙ append_assoc old (join_with_byte s texts) (cond (i == 0) [] (s ∷ []) ++ f (get_or xs i d))
    ∙ ap (λ l. old ++ l) (sym (append_assoc (join_with_byte s texts) (cond (i == 0) [] (s ∷ [])) (f (get_or xs i d)))
    ∙ ap (λ k. (join_with_byte s texts ++ cond (k == 0) [] (s ∷ [])) ++ f (get_or xs i d)) (sym count)
    ∙ sym (join-more s texts (f (get_or xs i d)))
    ∙ ap (join_with_byte s) (sym one_more))
  where
    length-map-take : {X : Type 0} (f : X → List ℕ) (xs : List X) (i : ℕ) → i < length xs → length (map f (take i xs)) ≡ i
    length-map-take f xs i inside = simp length-map (length-take-le i xs (omega arith))
