-- Values between commas, one after another.
use Rattle.std.proofs.Common.{◌≡◌, ℕ, List, [], ◌∷◌, ◌++◌, map, refl, sym, ◌∙◌, ap, append_assoc, append-nil}
use Rattle.std.specs.Prelude.{Option, Some, None}
use Rattle.std.specs.Option.{option_map}
use Rattle.pl_words.specs.Lists.{all_of, list_of}
use Rattle.pl_words.specs.Splitting.{parts_at}

-- values behind those that stand already
abbrev pub behind_values : {X : Type 0} → List X → Option (List X) → Option (List X)
behind_values done others = option_map (λ xs. done ++ xs) others

-- one value more
values-more : {X : Type 0} (done now : List X) (value : Option X) (values : List (Option X)) → option_map (λ x. done ++ x ∷ []) value ≡ Some now
    → behind_values done (all_of (value ∷ values)) ≡ behind_values now (all_of values)
values-more done now None values is = cc
values-more {X = X} done now (Some x) values is = let same : done ++ x ∷ [] ≡ now = cc in by (all_of values) same
  where
    by : (o : Option (List X)) → done ++ x ∷ [] ≡ now → behind_values done (option_map (λ xs. x ∷ xs) o) ≡ behind_values now o
    by None same = refl
    by (Some xs) same = ap (λ l. Some l) (sym (append_assoc done (x ∷ []) xs) ∙ ap (λ (l : List X). l ++ xs) same)
