-- The value of a text, for each type (docs/types.md, "Values").
use Rattle.std.specs.Prelude.{ℕ, ℤ, pos, if◌then◌else◌, List, Option, None, Some}
use Rattle.std.specs.List.{list_any}
use Rattle.std.specs.Option.{option_map}
use Rattle.std.specs.Str.{bytes_eq}
use Rattle.pl_frame.specs.declared.data_type.DataType.{DataType}
use Rattle.pl_frame.specs.declared.data_type.DataType.TheVariants as dtype
use Rattle.pl_frame.specs.Frame.{Scalar, Truth, Number, Letters}
use Rattle.pl_frame.specs.Types.{signed_range, unsigned_range}
use Rattle.pl_cells.specs.Booleans.{boolean_value}
use Rattle.pl_cells.specs.Integers.{signed_value, unsigned_value}
use Rattle.pl_cells.specs.Dates.{date_value}
use Rattle.pl_cells.specs.Times.{time_value, datetime_value}
use Rattle.pl_cells.specs.Decimals.{decimal_value}

-- a text that is one of the categories
abbrev pub category_value : List (List ℕ) → List ℕ → Option (List ℕ)
category_value categories text = if list_any (bytes_eq text) categories then Some text else None

-- the number of a text of a type that holds numbers
abbrev pub number_value : DataType → List ℕ → Option ℤ
number_value dtype.Int8 text = signed_value (signed_range 8) text
number_value dtype.Int16 text = signed_value (signed_range 16) text
number_value dtype.Int32 text = signed_value (signed_range 32) text
number_value dtype.Int64 text = signed_value (signed_range 64) text
number_value dtype.Int128 text = signed_value (signed_range 128) text
number_value dtype.UInt8 text = unsigned_value (unsigned_range 8) text
number_value dtype.UInt16 text = unsigned_value (unsigned_range 16) text
number_value dtype.UInt32 text = unsigned_value (unsigned_range 32) text
number_value dtype.UInt64 text = unsigned_value (unsigned_range 64) text
number_value dtype.Date text = date_value text
number_value dtype.Time text = option_map pos (time_value text)
number_value (dtype.Datetime unit) text = datetime_value unit text
number_value (dtype.Decimal precision (Some scale)) text = decimal_value precision scale text
number_value _ text = None

-- the value that a text has as a cell of a type: one or none
abbrev pub value_of_text : DataType → List ℕ → Option Scalar
value_of_text dtype.Boolean text = option_map Truth (boolean_value text)
value_of_text dtype.String text = Some (Letters text)
value_of_text dtype.Categorical text = Some (Letters text)
value_of_text (dtype.Enum (Some categories)) text = option_map Letters (category_value categories text)
value_of_text type text = option_map Number (number_value type text)
