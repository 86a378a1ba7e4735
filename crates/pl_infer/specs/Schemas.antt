-- Schemas whose types are replaced, and what stands against a schema (docs/types.md).
use Rattle.std.specs.Prelude.{◌≡◌, ℕ, Bool, true, false, not, List, map, find, position, Option, Some, unwrap_or}
use Rattle.std.specs.Option.{option_map}
use Rattle.pl_frame.specs.declared.data_type.DataType.{DataType}
use Rattle.pl_frame.specs.declared.data_type.DataType.TheVariants as dtype
use Rattle.pl_frame.specs.declared.error.ComputeFault.TheVariants as compute_fault
use Rattle.pl_frame.specs.declared.error.PolarsError.{PolarsError}
use Rattle.pl_frame.specs.declared.error.PolarsError.TheVariants as error
use Rattle.pl_frame.specs.Schema.{Entry, lacks, names_in, type_of}
use Rattle.pl_frame.specs.Types.{is_readable}

-- ---- types that are replaced

-- an entry with the type that its name has in another schema, where it has one
abbrev pub retyped : List Entry → Entry → Entry
retyped other entry = (entry.0, unwrap_or (type_of entry.0 other) entry.1)

-- a schema whose names have their types in another one, where they have one there
abbrev pub overwritten_schema : List Entry → List Entry → List Entry
overwritten_schema other schema = map (retyped other) schema

-- the first name of another schema that the schema does not have
abbrev pub unknown_name : List Entry → List Entry → Option (List ℕ)
unknown_name other schema = find (lacks schema) (names_in other)

-- ---- types that can't be read

-- the types of the columns
abbrev pub types_of : List Entry → List DataType
types_of schema = map (λ column. column.1) schema

-- the least column whose type can't be read
abbrev pub first_unreadable_column : List Entry → Option ℕ
first_unreadable_column schema = position (λ type. not (is_readable type)) (types_of schema)

-- the refusal of that column
abbrev pub unreadable : List Entry → Option PolarsError
unreadable schema = option_map (λ column. error.ComputeError (compute_fault.Dtype column)) (first_unreadable_column schema)

-- texts that are kept as codes of categories which the input gives
abbrev pub is_categorical : DataType → Bool
is_categorical dtype.Categorical = true
is_categorical _ = false
