-- Casts of columns (docs/types.md, "Casts").
use Rattle.std.specs.Prelude.{ℕ, ℤ, Bool, true, false, ◌&&◌, ◌||◌, if◌then◌else◌, List, Option, None, Some, map, slice_get, slice_set}
use Rattle.std.specs.Option.{option_map_or}
use Rattle.pl_frame.specs.declared.data_type.DataType.{DataType}
use Rattle.pl_frame.specs.declared.data_type.DataType.TheVariants as dtype
use Rattle.pl_frame.specs.Columns.{is_coded, is_value_of}
use Rattle.pl_frame.specs.Equal.{types_equal}
use Rattle.pl_frame.specs.Frame.{Scalar, Number, ColumnValue}
use Rattle.pl_frame.specs.Types.{Range, is_readable, is_whole_number, is_within}

-- the type `String`
abbrev pub is_string : DataType → Bool
is_string dtype.String = true
is_string _ = false

-- from whole numbers to whole numbers, from `String` to categories, and from categories to `String`
abbrev pub is_other_cast : DataType → DataType → Bool
is_other_cast from to = is_whole_number from && is_whole_number to || (is_string from && is_coded to || is_coded from && is_string to)

-- to a readable type, which is the same or one of another cast
abbrev pub is_cast : DataType → DataType → Bool
is_cast from to = is_readable to && (types_equal from to || is_other_cast from to)

-- the number in a cell, where it lies in a range
abbrev pub number_in : Range → Option Scalar → Option ℤ
number_in range (Some (Number n)) = if is_within range n then Some n else None
number_in range _ = None

-- a cell under another type: the same value where it is one of that type, and else a null
abbrev pub cast_value : DataType → Option Scalar → Option Scalar
cast_value to None = None
cast_value to (Some value) = if is_value_of to value then Some value else None

-- the column of the same name whose cells are these
abbrev pub cast_column : ColumnValue → DataType → ColumnValue
cast_column column to = record { name = column.name; dtype = to; values = map (cast_value to) column.values }

-- there is a column at this place, and its type can be cast to the other
abbrev pub can_cast : List ColumnValue → ℕ → DataType → Bool
can_cast columns place to = option_map_or (λ column. is_cast column.dtype to) (slice_get columns place) false

-- the columns, of which the one at this place is cast
abbrev pub with_cast : List ColumnValue → ℕ → DataType → List ColumnValue
with_cast columns place to = option_map_or (λ column. slice_set columns place (cast_column column to)) (slice_get columns place) columns
