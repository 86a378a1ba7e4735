-- Lists of values between commas (docs/command-line.md, "Words").
use Rattle.std.specs.Prelude.{ℕ, List, [], ◌∷◌, map, Option, None, Some}
use Rattle.std.specs.Option.{option_map}
use Rattle.pl_words.specs.Splitting.{parts_at}

-- all of the values, where none is missing
abbrev pub all_of : {X : Type 0} → List (Option X) → Option (List X)
all_of [] = Some []
all_of (None ∷ others) = None
all_of (Some x ∷ others) = option_map (λ xs. x ∷ xs) (all_of others)

-- LIST: what the parts between the commas mean, where each of them has a meaning
abbrev pub list_of : {X : Type 0} → (List ℕ → Option X) → List ℕ → Option (List X)
list_of meaning text = all_of (map meaning (parts_at 44 text))
