-- Texts that mean null in all columns alike.
use Rattle.std.specs.Prelude.{◌≡◌, ℕ, Bool, true, false, List, ◌∷◌, get_or, Option, None, Some}
use Rattle.std.specs.List.{list_any}
use Rattle.std.specs.Str.{bytes_eq}
use Rattle.pl_cells.specs.NullValues.{means_null}
use Rattle.pl_cells.specs.declared.null_values.NullValuesCompiled.{NullValuesCompiled}
use Rattle.pl_cells.specs.declared.null_values.NullValuesCompiled.TheVariants as compiled

-- they do not differ by columns
abbrev pub are_alike : Option NullValuesCompiled → Bool
are_alike None = true
are_alike (Some (compiled.AllColumnsSingle text)) = true
are_alike (Some (compiled.AllColumns texts)) = true
are_alike (Some (compiled.Columns texts)) = false

-- each of these texts that is not empty begins with one of these bytes
abbrev pub AreStarts : List (List ℕ) → List Bool → Type 0
AreStarts texts starts = (x : ℕ) (rest : List ℕ) → list_any (bytes_eq (x ∷ rest)) texts ≡ true → get_or starts x false ≡ true

-- and so does each that means null, in the first column
abbrev pub AreStartsOf : Option NullValuesCompiled → List Bool → Type 0
AreStartsOf nulls starts = (x : ℕ) (rest : List ℕ) → means_null nulls 0 (x ∷ rest) ≡ true → get_or starts x false ≡ true
