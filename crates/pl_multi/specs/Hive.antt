-- Values that stand in a path, as year=2024/month=1/part-0.csv (docs/files.md, "Many files").
use Rattle.std.specs.Prelude.{ℕ, Bool, ◌||◌, ◌==◌, if◌then◌else◌, List, [], ◌∷◌, length, Option, None, Some, is_some}
use Rattle.std.specs.List.{filter_map}
use Rattle.pl_words.specs.Splitting.{cut_at, parts_at}

abbrev pub is_empty : List ℕ → Bool
is_empty text = length text == 0

-- the name and the value of a segment with exactly one `=` (byte 61) that has text on both sides
abbrev pub value_in : List ℕ → Option (List ℕ × List ℕ)
value_in segment = elim (cut_at 61 segment) [
  | None ↦ None
  | Some cut ↦ if is_empty cut.0 || (is_empty cut.1 || is_some (cut_at 61 cut.1)) then None else Some cut
]

abbrev pub all_but_last : {X : Type 0} → List X → List X
all_but_last [] = []
all_but_last (x ∷ []) = []
all_but_last (x ∷ y ∷ ys) = x ∷ all_but_last (y ∷ ys)

-- the values of the segments between slashes (byte 47) but the last, in order
abbrev pub hive_values : List ℕ → List (List ℕ × List ℕ)
hive_values path = filter_map value_in (all_but_last (parts_at 47 path))
