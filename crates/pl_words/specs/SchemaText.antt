-- The text of a schema (docs/command-line.md, "Schema text").
use Rattle.std.specs.Prelude.{ℕ, Bool, true, not, ◌&&◌, if◌then◌else◌, List, [], ◌∷◌, Option, None, Some}
use Rattle.std.specs.List.{list_any}
use Rattle.std.specs.Option.{option_map, option_and_then}
use Rattle.std.specs.Str.{bytes_eq}
use Rattle.pl_frame.specs.declared.data_type.DataType.{DataType}
use Rattle.pl_frame.specs.Schema.{names_in}
use Rattle.pl_words.specs.Lists.{list_of}
use Rattle.pl_words.specs.Splitting.{cut_at}
use Rattle.pl_words.specs.TypeText.{named_type}

-- names with their types, in order
abbrev pub SchemaValue : Type 0
SchemaValue = List (List ℕ × DataType)

-- NAME:TYPE, cut at the first colon; the name may be empty
abbrev pub entry_of : List ℕ → Option (List ℕ × DataType)
entry_of part = option_and_then (λ cut. option_map (λ type. (cut.0, type)) (named_type cut.1)) (cut_at 58 part)

-- no name stands twice
abbrev pub are_distinct : List (List ℕ) → Bool
are_distinct [] = true
are_distinct (name ∷ names) = not (list_any (bytes_eq name) names) && are_distinct names

-- the schema of a text: between commas stands an entry each, and no name stands twice
abbrev pub schema_of : List ℕ → Option SchemaValue
schema_of text =
    option_and_then (λ entries. if are_distinct (names_in entries) then Some entries else None)
    (list_of entry_of text)
