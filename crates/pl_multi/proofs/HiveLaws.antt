-- Values that stand in a path.
use Rattle.std.proofs.Common.{◌≡◌, ℕ, Bool, true, false, cond, List, [], ◌∷◌, ◌++◌, Option, Some, None, refl, sym, ◌∙◌, ap}
use Rattle.std.specs.Prelude.{option_to_list}
use Rattle.std.specs.List.{filter_map, onto_first, cons_option}
use Rattle.pl_words.specs.Splitting.{is_byte, parts_at}
use Rattle.pl_multi.specs.Hive.{value_in, all_but_last, hive_values}

-- there is always a part
parts-some : (mark : ℕ) (text : List ℕ) → (first : List ℕ) × (rest : List (List ℕ)) × (parts_at mark text ≡ first ∷ rest)
parts-some mark [] = ([], [], refl)
parts-some mark (x ∷ xs) = by (is_byte mark x) refl (parts-some mark xs)
  where
    by : (b : Bool) → is_byte mark x ≡ b → (first : List ℕ) × (rest : List (List ℕ)) × (parts_at mark xs ≡ first ∷ rest) → (first : List ℕ) × (rest : List (List ℕ)) × (parts_at mark (x ∷ xs) ≡ first ∷ rest)
    by true e (first, rest, is) = ([], parts_at mark xs, ap (λ b. cond b ([] ∷ parts_at mark xs) (onto_first x (parts_at mark xs))) e)
    by false e (first, rest, is) = (x ∷ first, rest, (λ i. cond (e i) ([] ∷ parts_at mark xs) (onto_first x (is i))))

filter-more : {X Y : Type 0} (f : X → Option Y) (x : X) (xs : List X) → filter_map f (x ∷ xs) ≡ option_to_list (f x) ++ filter_map f xs
filter-more {X} {Y} f x xs = by (f x)
  where
    by : (y : Option Y) → cons_option y (filter_map f xs) ≡ option_to_list y ++ filter_map f xs
    by None = refl
    by (Some y) = refl

-- one segment more
pub values-more : (rest segment behind : List ℕ) → parts_at 47 rest ≡ segment ∷ parts_at 47 behind → hive_values rest ≡ option_to_list (value_in segment) ++ hive_values behind
values-more rest segment behind are =
    let some = parts-some 47 behind in
    ap (λ l. filter_map value_in (all_but_last l)) (are ∙ ap (λ (l : List (List ℕ)). segment ∷ l) some.2)
    ∙ filter-more value_in segment (all_but_last (some.0 ∷ some.1))
    ∙ ap (λ l. option_to_list (value_in segment) ++ filter_map value_in (all_but_last l)) (sym some.2)
