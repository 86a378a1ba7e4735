-- Casts of columns of a frame, also from text (docs/types.md, "Casts").
use Rattle.std.specs.Prelude.{◌≡◌, ℕ, Bool, ◌&&◌, ◌||◌, if◌then◌else◌, List, [], ◌∷◌, Option, None, Some, is_some, is_none, map, find, position, slice_get}
use Rattle.std.specs.Option.{option_map, option_map_or, option_and_then}
use Rattle.std.specs.Str.{bytes_eq}
use Rattle.pl_frame.specs.declared.data_type.DataType.{DataType}
use Rattle.pl_frame.specs.declared.error.ComputeFault.{ComputeFault}
use Rattle.pl_frame.specs.declared.error.ComputeFault.TheVariants as compute
use Rattle.pl_frame.specs.declared.error.FaultKind.TheVariants as fault
use Rattle.pl_frame.specs.declared.error.PolarsError.{PolarsError}
use Rattle.pl_frame.specs.declared.error.PolarsError.TheVariants as error
use Rattle.pl_frame.specs.declared.schema.Field.{Field}
use Rattle.pl_frame.specs.Casts.{is_string, is_cast, cast_value}
use Rattle.pl_frame.specs.Columns.{is_boolean, is_number}
use Rattle.pl_frame.specs.Frame.{Scalar, Letters, ColumnValue, names_of}
use Rattle.pl_frame.specs.Types.{is_readable}
use Rattle.pl_cells.specs.Values.{value_of_text}

-- ---- one column

-- a type whose values are read from text: truth values, and numbers, dates, times and decimals
abbrev pub is_read : DataType → Bool
is_read type = is_boolean type || is_number type

-- from `String` to such a type
abbrev pub is_text_cast : DataType → DataType → Bool
is_text_cast from to = is_string from && is_read to

-- to a readable type: a cast that columns have, or one from text
abbrev pub is_carried : DataType → DataType → Bool
is_carried from to = is_cast from to || is_readable to && is_text_cast from to

-- the value of the text in a cell, as it stands
abbrev pub read_cell : DataType → Option Scalar → Option Scalar
read_cell to (Some (Letters text)) = value_of_text to text
read_cell to _ = None

-- a cell of one type under another: a null where it has no value of that type
abbrev pub carried_cell : DataType → DataType → Option Scalar → Option Scalar
carried_cell from to cell = if is_text_cast from to then read_cell to cell else cast_value to cell

-- the column of the same name whose cells are these
abbrev pub carried_cast : ColumnValue → DataType → ColumnValue
carried_cast column to = record { name = column.name; dtype = to; values = map (carried_cell column.dtype to) column.values }

-- ---- what is wrong with a cast

-- the cell has a value, and none under the other type
abbrev pub is_lost : DataType → DataType → Option Scalar → Bool
is_lost from to cell = is_some cell && is_none (carried_cell from to cell)

-- the first row of a column that is null under the other type, and was not
abbrev pub first_lost : ColumnValue → DataType → Option ℕ
first_lost column to = position (is_lost column.dtype to) column.values

-- the types don't go together, or, where errors are not ignored, a value is lost
abbrev pub cast_fault : Bool → ℕ → ColumnValue → DataType → Option ComputeFault
cast_fault ignore place column to =
    if is_carried column.dtype to
    then (if ignore then None else option_map (λ row. compute.Record row place fault.Value) (first_lost column to))
    else Some (compute.Dtype place)

-- the place of the column of a name
abbrev pub place_named : List ℕ → List ColumnValue → Option ℕ
place_named name columns = position (bytes_eq name) (names_of columns)

-- what is wrong with the cast of the column that a field names; nothing where there is none
abbrev pub field_fault : Bool → List ColumnValue → Field → Option ComputeFault
field_fault ignore columns field =
    option_and_then (λ place. option_and_then (λ column. cast_fault ignore place column field.dtype) (slice_get columns place)) (place_named field.name columns)

-- what is wrong with the first field of a list of which something is
abbrev pub first_fault : Bool → List ColumnValue → List Field → Option ComputeFault
first_fault ignore columns [] = None
first_fault ignore columns (field ∷ fields) = elim (field_fault ignore columns field) [ Some wrong ↦ Some wrong | None ↦ first_fault ignore columns fields ]

-- a refusal for that fault, or for want of memory, which may come at any time
abbrev pub IsCastFault : Option ComputeFault → PolarsError → Type 0
IsCastFault first (error.ComputeError wrong) = first ≡ Some wrong
IsCastFault first error.OutOfMemory = Unit {0}
IsCastFault first _ = ⊥

-- ---- a frame

-- the first field of a name
abbrev pub field_named : List ℕ → List Field → Option Field
field_named name fields = find (λ field. bytes_eq field.name name) fields

-- a column under the type that a list of fields has for its name, and as it is where they have none
abbrev pub cast_of : List Field → ColumnValue → ColumnValue
cast_of fields column = option_map_or (λ field. carried_cast column field.dtype) (field_named column.name fields) column

-- each column of a frame so
abbrev pub with_casts : List Field → List ColumnValue → List ColumnValue
with_casts fields columns = map (cast_of fields) columns
