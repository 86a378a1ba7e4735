-- Schemas, as contracts see them: names with types, in order (docs/types.md).
use Rattle.std.specs.Prelude.{ℕ, List, [], ◌∷◌, ◌++◌, Option, map, position, slice_get, slice_set, AllPairs, ◌≢◌, Bool, is_none}
use Rattle.std.specs.Option.{option_map, option_map_or, option_and_then}
use Rattle.std.specs.Str.{bytes_eq}
use Rattle.pl_frame.specs.declared.data_type.DataType.{DataType}

-- a name with a type
abbrev pub Entry : Type 0
Entry = List ℕ × DataType

-- the names in order
abbrev pub names_in : List Entry → List (List ℕ)
names_in entries = map (λ entry. entry.0) entries

-- no two names are the same
abbrev pub HaveDistinctNames : List Entry → Type 0
HaveDistinctNames entries = AllPairs (λ a b. a ≢ b) (names_in entries)

-- the first place of a name
abbrev pub place_of : List ℕ → List Entry → Option ℕ
place_of name entries = position (bytes_eq name) (names_in entries)

-- the schema doesn't have the name
abbrev pub lacks : List Entry → List ℕ → Bool
lacks entries name = is_none (place_of name entries)

-- the type at a place
abbrev pub type_at : List Entry → ℕ → Option DataType
type_at entries i = option_map (λ entry. entry.1) (slice_get entries i)

-- the type under a name
abbrev pub type_of : List ℕ → List Entry → Option DataType
type_of name entries = option_and_then (type_at entries) (place_of name entries)

-- the entries with this type at a place, if there is such a place
abbrev pub with_type_at : List Entry → ℕ → DataType → List Entry
with_type_at entries i type = option_map_or (λ entry. slice_set entries i (entry.0, type)) (slice_get entries i) entries

-- the entries with this type under a name: a name that is there keeps its place, and a new one goes last
abbrev pub with_type : List Entry → List ℕ → DataType → List Entry
with_type entries name type =
    option_map_or (λ i. slice_set entries i (name, type)) (place_of name entries) (entries ++ (name, type) ∷ [])
