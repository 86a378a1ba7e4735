-- Texts that mean null, in all columns or by name (docs/types.md, "Null values").
use Rattle.std.specs.Prelude.{◌≡◌, ◌≤◌, ℕ, Bool, false, ◌&&◌, not, if◌then◌else◌, List, [], ◌∷◌, length, map, find, Option, None, Some, is_some, slice_get}
use Rattle.std.specs.Borrow.{Bor}
use Rattle.std.specs.Cmp.{IsEquivalence, and_equiv, on_equiv}
use Rattle.std.specs.Cmp.Lexicographic.{nat_list_eq_equiv}
use Rattle.std.specs.List.{list_any}
use Rattle.std.specs.Option.{option_map, unwrap_or}
use Rattle.std.specs.Str.{bytes_eq}
use Rattle.pl_frame.specs.Schema.{Entry, names_in, place_of}
use Rattle.pl_frame.specs.declared.error.PolarsError.{PolarsError}
use Rattle.pl_frame.specs.declared.error.PolarsError.TheVariants as error
use Rattle.pl_cells.specs.declared.null_values.NullValues.{NullValues}
use Rattle.pl_cells.specs.declared.null_values.NullValues.TheVariants as values
use Rattle.pl_cells.specs.declared.null_values.NullValuesCompiled.{NullValuesCompiled}
use Rattle.pl_cells.specs.declared.null_values.NullValuesCompiled.TheVariants as compiled
use Rattle.pl_cells.specs.NullTest.{NullTest}

-- names with their texts, in order
abbrev pub NamedTexts : Type 0
NamedTexts = List (List ℕ × List ℕ)

-- the same text under the same name
abbrev pub entries_equal : List ℕ × List ℕ → List ℕ × List ℕ → Bool
entries_equal a b = bytes_eq a.0 b.0 && bytes_eq a.1 b.1

-- which is an equivalence, as the trait asks
pub entries_equiv : IsEquivalence entries_equal
entries_equiv = and_equiv (on_equiv (λ (entry : List ℕ × List ℕ). entry.0) nat_list_eq_equiv) (on_equiv (λ (entry : List ℕ × List ℕ). entry.1) nat_list_eq_equiv)

-- the text of a name's last entry, or else another
abbrev pub text_under : List ℕ → NamedTexts → List ℕ → List ℕ
text_under other [] name = other
text_under other (entry ∷ entries) name = text_under (if bytes_eq name entry.0 then entry.1 else other) entries name

-- the text of each column: that of its name's last entry, or the empty text
abbrev pub column_texts : NamedTexts → List (List ℕ) → List (List ℕ)
column_texts entries names = map (text_under [] entries) names

-- null values with columns of these names in place of names
abbrev pub compiled_under : NullValues → List (List ℕ) → NullValuesCompiled
compiled_under (values.AllColumnsSingle text) names = compiled.AllColumnsSingle text
compiled_under (values.AllColumns texts) names = compiled.AllColumns texts
compiled_under (values.Named entries) names = compiled.Columns (column_texts entries names)

-- null values with the columns of a schema in place of names
abbrev pub compiled_for : NullValues → List Entry → NullValuesCompiled
compiled_for null_values schema = compiled_under null_values (names_in schema)

-- a schema doesn't have the name of an entry
abbrev pub is_unknown : List Entry → List ℕ × List ℕ → Bool
is_unknown schema entry = not (is_some (place_of entry.0 schema))

-- the first of these names that a schema doesn't have
abbrev pub unknown_among : List Entry → NamedTexts → Option (List ℕ)
unknown_among schema entries = option_map (λ entry. entry.0) (find (is_unknown schema) entries)

-- the first name that a schema doesn't have
abbrev pub unknown_name : List Entry → NullValues → Option (List ℕ)
unknown_name schema (values.AllColumnsSingle text) = None
unknown_name schema (values.AllColumns texts) = None
unknown_name schema (values.Named entries) = unknown_among schema entries

-- this is the first name that is not there; want of memory may come at any time
abbrev pub IsNameFault : Option (List ℕ) → PolarsError → Type 0
IsNameFault first (error.ColumnNotFound name) = first ≡ Some name
IsNameFault first error.OutOfMemory = Unit {0}
IsNameFault first fault = ⊥

-- the texts that mean null in a column
abbrev pub null_texts : NullValuesCompiled → ℕ → List (List ℕ)
null_texts (compiled.AllColumnsSingle text) column = text ∷ []
null_texts (compiled.AllColumns texts) column = texts
null_texts (compiled.Columns texts) column = unwrap_or (slice_get texts column) [] ∷ []

-- the text is one of those that mean null in a column
abbrev pub is_null_text : NullValuesCompiled → ℕ → List ℕ → Bool
is_null_text nulls column text = list_any (bytes_eq text) (null_texts nulls column)

-- every column below this number has its texts
abbrev pub HasColumns : NullValuesCompiled → ℕ → Type 0
HasColumns (compiled.AllColumnsSingle text) columns = Unit {0}
HasColumns (compiled.AllColumns texts) columns = Unit {0}
HasColumns (compiled.Columns texts) columns = columns ≤ length texts

-- a text means null in a column, where there are texts that do
abbrev pub means_null : Option NullValuesCompiled → ℕ → NullTest
means_null None column text = false
means_null (Some nulls) column text = is_null_text nulls column text

-- every column below this number has its texts, where there are such
abbrev pub HaveTexts : Option (Bor NullValuesCompiled) → ℕ → Type 0
HaveTexts None columns = Unit {0}
HaveTexts (Some nulls) columns = HasColumns nulls.now columns
