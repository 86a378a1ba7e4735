-- What the parts set, and what they leave as it is (docs/command-line.md, "Words").
use Rattle.std.specs.Prelude.{ℕ, List, Option, None, Some}
use Rattle.std.specs.Option.{option_map}
use Rattle.pl_words.specs.Parts.{PartText, value_under}

-- what an option sets: the meaning of the value under its name, or else the default; none where the value has no meaning
abbrev pub option_or : {X : Type 0} → X → (List ℕ → Option X) → List ℕ → List PartText → Option X
option_or default meaning name parts = elim (value_under name parts) [ None ↦ Some default | Some value ↦ meaning value ]

-- a setting that may be set or not is set to what a value means
abbrev pub set_to : {X : Type 0} → (List ℕ → Option X) → List ℕ → Option (Option X)
set_to meaning value = option_map (λ x. Some x) (meaning value)

-- where there is such a value, what is then made of it
abbrev pub with : {X Y : Type 0} → Option X → (X → Option Y) → Option Y
with None next = None
with (Some x) next = next x

-- a text is itself
abbrev pub text_of : List ℕ → Option (List ℕ)
text_of value = Some value
