-- What a column holds, and when one can be made of given values (docs/types.md).
use Rattle.std.specs.Prelude.{◌≡◌, ℕ, ℤ, Bool, true, false, not, ◌&&◌, if◌then◌else◌, List, [], Option, None, Some, is_some, map, position}
use Rattle.std.specs.List.{list_any}
use Rattle.std.specs.Option.{option_map, option_map_or}
use Rattle.std.specs.Str.{bytes_eq, is_utf8}
use Rattle.pl_frame.specs.declared.column.ColumnFault.{ColumnFault}
use Rattle.pl_frame.specs.declared.column.ColumnFault.TheVariants.{OutOfRange, OutOfMemory}
use Rattle.pl_frame.specs.declared.column.Value.{Value}
use Rattle.pl_frame.specs.declared.column.Value.TheVariants as value
use Rattle.pl_frame.specs.declared.data_type.DataType.{DataType}
use Rattle.pl_frame.specs.declared.data_type.DataType.TheVariants as dtype
use Rattle.pl_frame.specs.Categories.{code_of, dictionary_of}
use Rattle.pl_frame.specs.Frame.{Scalar, Truth, Number, Letters, ColumnValue, cell_at}
use Rattle.pl_frame.specs.Types.{range_of, is_within}

-- ---- values

-- a value that was read from a cell
abbrev pub scalar_of : Value → Option Scalar
scalar_of value.Null = None
scalar_of (value.Boolean b) = Some (Truth b)
scalar_of (value.Whole n) = Some (Number n)
scalar_of (value.Text text) = Some (Letters text.now)

-- the cells of a column of truth values
abbrev pub truth_cells : List (Option Bool) → List (Option Scalar)
truth_cells truths = map (option_map Truth) truths

-- the cells of a column of numbers
abbrev pub number_cells : List (Option ℤ) → List (Option Scalar)
number_cells numbers = map (option_map Number) numbers

-- the cells of a column of texts
abbrev pub text_cells : List (Option (List ℕ)) → List (Option Scalar)
text_cells texts = map (option_map Letters) texts

-- ---- which values a type holds

-- truth values
abbrev pub is_boolean : DataType → Bool
is_boolean dtype.Boolean = true
is_boolean _ = false

-- whole numbers, dates, times, datetimes and decimals
abbrev pub is_number : DataType → Bool
is_number type = is_some (range_of type)

-- an enum
abbrev pub is_enum : DataType → Bool
is_enum (dtype.Enum categories) = true
is_enum _ = false

-- texts that are kept as codes
abbrev pub is_coded : DataType → Bool
is_coded dtype.Categorical = true
is_coded (dtype.Enum categories) = true
is_coded _ = false

-- the categories of an enum
abbrev pub categories_of : DataType → List (List ℕ)
categories_of (dtype.Enum (Some categories)) = categories
categories_of _ = []

-- a text of the type: any of `String` and `Categorical`, and of an enum one of its categories
abbrev pub is_text_of : DataType → List ℕ → Bool
is_text_of dtype.String text = true
is_text_of dtype.Categorical text = true
is_text_of (dtype.Enum (Some categories)) text = list_any (bytes_eq text) categories
is_text_of _ text = false

-- a number of the type: one in its range, where it holds numbers
abbrev pub is_number_of : DataType → ℤ → Bool
is_number_of type n = option_map_or (λ range. is_within range n) (range_of type) false

-- a value of the type: a truth value, a number of it, or a text of it, which is UTF-8
abbrev pub is_value_of : DataType → Scalar → Bool
is_value_of type (Truth b) = is_boolean type
is_value_of type (Number n) = is_number_of type n
is_value_of type (Letters text) = is_utf8 text && is_text_of type text

-- a value that is none of the type; a null is of each type
abbrev pub misfits : DataType → Option Scalar → Bool
misfits type None = false
misfits type (Some v) = not (is_value_of type v)

-- the first row whose value is none of the type
abbrev pub first_misfit : DataType → List (Option Scalar) → Option ℕ
first_misfit type values = position (misfits type) values

-- each value is one of the type, or a null
abbrev pub HoldsType : DataType → List (Option Scalar) → Type 0
HoldsType type values = first_misfit type values ≡ None

-- a value that is none of the type is at this row; want of memory may come at any time
abbrev pub IsFirstFault : Option ℕ → ColumnFault → Type 0
IsFirstFault first (OutOfRange row) = first ≡ Some row
IsFirstFault first OutOfMemory = Unit {0}

-- ---- dictionaries

-- the text of a cell
abbrev pub text_in : Option Scalar → Option (List ℕ)
text_in (Some (Letters text)) = Some text
text_in _ = None

-- the dictionary of a column: of an enum its categories, else its texts, each once, in order of first appearance
abbrev pub dictionary : DataType → List (Option Scalar) → List (List ℕ)
dictionary type values = if is_enum type then categories_of type else dictionary_of (map text_in values)

-- the code of a row: the place of its text in the dictionary
abbrev pub code_at : ColumnValue → ℕ → Option ℕ
code_at column row = code_of (dictionary column.dtype column.values) (text_in (cell_at column row))
