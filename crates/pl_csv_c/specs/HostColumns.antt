-- What the arrays of a column of the host's own mean (the header `c/pl_csv.h`).
use Rattle.std.specs.Prelude.{◌≡◌, ◌<◌, ℕ, ◌+◌, ◌*◌, ◌/◌, ◌^◌, Bool, true, false, not, ◌&&◌, ◌==◌, nat_lt, nat_le, if◌then◌else◌, ℤ, pos, negsuc, List, length, map, Option, None, Some, is_some, unwrap_or, slice_get, slice_index_or, slice_range}
use Rattle.std.specs.Int.{cast_signed, w128}
use Rattle.std.specs.List.{list_any, range_with_len}
use Rattle.std.specs.Option.{option_map, option_map_or, option_and_then}
use Rattle.std.specs.Ordering.{int_eq}
use Rattle.std.specs.Str.{is_utf8}
use Rattle.pl_csv_c.specs.declared.host_column.HostColumn.{HostColumn}
use Rattle.pl_frame.specs.declared.data_type.DataType.{DataType}
use Rattle.pl_frame.specs.declared.data_type.DataType.TheVariants as dtype
use Rattle.pl_frame.specs.declared.data_type.TimeUnit.{TimeUnit}
use Rattle.pl_frame.specs.declared.data_type.TimeUnit.TheVariants as unit
use Rattle.pl_frame.specs.Frame.{Scalar, Truth, Number, Letters, ColumnValue}
use Rattle.pl_frame.specs.Types.{Range, is_within, range_of, is_readable}

-- ---- the type

-- the texts, where each of them is UTF-8
abbrev pub all_texts : List (List ℕ) → Option (List (List ℕ))
all_texts texts = if list_any (λ text. not (is_utf8 text)) texts then None else Some texts

-- the categories, where each of them is UTF-8
abbrev pub categories_in : HostColumn → Option (List (List ℕ))
categories_in c = all_texts (map (λ text. text.now) c.categories.now)

-- the unit of a number
abbrev pub numbered_unit : ℕ → Option TimeUnit
numbered_unit n =
    if n == 0 then Some unit.Milliseconds
    else if n == 1 then Some unit.Microseconds
    else if n == 2 then Some unit.Nanoseconds
    else None

-- a precision, of which 0 says that there is none
abbrev pub numbered_precision : ℕ → Option ℕ
numbered_precision n = if n == 0 then None else Some n

-- the type of a number that needs nothing besides it
abbrev pub numbered_type : ℕ → Option DataType
numbered_type n =
    if n == 0 then Some dtype.Boolean
    else if n == 1 then Some dtype.Int8
    else if n == 2 then Some dtype.Int16
    else if n == 3 then Some dtype.Int32
    else if n == 4 then Some dtype.Int64
    else if n == 5 then Some dtype.Int128
    else if n == 6 then Some dtype.UInt8
    else if n == 7 then Some dtype.UInt16
    else if n == 8 then Some dtype.UInt32
    else if n == 9 then Some dtype.UInt64
    else if n == 10 then Some dtype.String
    else if n == 11 then Some dtype.Categorical
    else if n == 13 then Some dtype.Date
    else if n == 14 then Some dtype.Time
    else if n == 17 then Some dtype.Null
    else None

-- the type that the numbers of a column give, where they give one
abbrev pub host_type : HostColumn → Option DataType
host_type c =
    if c.dtype == 12 then option_map (λ texts. dtype.Enum (Some texts)) (categories_in c)
    else if c.dtype == 15 then option_map (λ unit. dtype.Datetime unit) (numbered_unit c.unit)
    else if c.dtype == 16 then Some (dtype.Decimal (numbered_precision c.precision) (Some c.scale))
    else numbered_type c.dtype

-- the type, `Null` where the numbers give none
abbrev pub type_of : HostColumn → DataType
type_of c = unwrap_or (host_type c) dtype.Null

-- the numbers give a type whose values can be read
abbrev pub has_type : HostColumn → Bool
has_type c = option_map_or is_readable (host_type c) false

-- ---- what stands at a row

-- bytes, where they are UTF-8
abbrev pub checked_text : List ℕ → Option (List ℕ)
checked_text bytes = if is_utf8 bytes then Some bytes else None

-- the flag of a row says that it has a value
abbrev pub is_set : HostColumn → ℕ → Bool
is_set c row = unwrap_or (slice_get c.present.now row) false

-- a number in 64 bits
abbrev pub number_at : HostColumn → ℕ → Option ℤ
number_at c row = slice_get c.numbers.now row

-- a number in two words of 64 bits, the low one first, by two's complement
abbrev pub wide_at : HostColumn → ℕ → Option ℤ
wide_at c row =
    if nat_lt row (length c.words.now / 2) then Some (cast_signed w128 (slice_index_or c.words.now (2 * row + 1) 0 * 2 ^ 64 + slice_index_or c.words.now (2 * row) 0))
    else None

-- the bytes from one place up to another, where they are a text
abbrev pub text_between : List ℕ → ℕ → ℕ → Option (List ℕ)
text_between bytes begin end = if nat_le begin end && nat_le end (length bytes) then checked_text (slice_range bytes begin end) else None

-- a text: the bytes between two ends
abbrev pub text_at : HostColumn → ℕ → Option (List ℕ)
text_at c row =
    if nat_lt (row + 1) (length c.ends.now) then text_between c.bytes.now (slice_index_or c.ends.now row 0) (slice_index_or c.ends.now (row + 1) 0) else None

-- the text at a place
abbrev pub text_numbered : List (List ℕ) → ℤ → Option (List ℕ)
text_numbered texts (pos n) = option_and_then checked_text (slice_get texts n)
text_numbered texts (negsuc n) = None

-- a category: the text at the place that the number tells
abbrev pub category_at : HostColumn → ℕ → Option (List ℕ)
category_at c row = option_and_then (text_numbered (map (λ text. text.now) c.categories.now)) (number_at c row)

-- ---- the values

-- the numbers of the type stand in two words
abbrev pub is_in_words : DataType → Bool
is_in_words dtype.Int128 = true
is_in_words dtype.UInt64 = true
is_in_words (dtype.Datetime unit.Nanoseconds) = true
is_in_words (dtype.Decimal precision scale) = true
is_in_words _ = false

-- a number as a value, where it lies in the range
abbrev pub number_within : Range → ℤ → Option Scalar
number_within range n = if is_within range n then Some (Number n) else None

-- a number as a truth value: 0 is false, and any other true
abbrev pub truth_of : ℤ → Scalar
truth_of n = Truth (not (int_eq n (pos 0)))

-- the value of a row under a type that holds no numbers, where it has one
abbrev pub other_value : DataType → HostColumn → ℕ → Option Scalar
other_value dtype.Boolean c row = option_map truth_of (number_at c row)
other_value dtype.String c row = option_map Letters (text_at c row)
other_value dtype.Categorical c row = option_map Letters (category_at c row)
other_value (dtype.Enum categories) c row = option_map Letters (category_at c row)
other_value _ c row = None

-- the value of a row under a type, given the range of its numbers, where it holds any
abbrev pub value_in : Option Range → DataType → HostColumn → ℕ → Option Scalar
value_in (Some range) type c row = option_and_then (number_within range) (if is_in_words type then wide_at c row else number_at c row)
value_in None type c row = other_value type c row

-- the value of a row, where it has one of the type
abbrev pub host_value : DataType → HostColumn → ℕ → Option Scalar
host_value type c row = value_in (range_of type) type c row

-- the cell of a row: null where its flag is not set, else its value
abbrev pub host_cell : DataType → HostColumn → ℕ → Option Scalar
host_cell type c row = if is_set c row then host_value type c row else None

-- the cells of all rows
abbrev pub host_cells : DataType → HostColumn → List (Option Scalar)
host_cells type c = map (host_cell type c) (range_with_len 0 (length c.present.now))

-- a row has a value where its flag is set
abbrev pub is_whole : DataType → HostColumn → ℕ → Bool
is_whole type c row = if is_set c row then is_some (host_value type c row) else true

-- the first rows, so many, have values where their flags are set
abbrev pub AreWhole : DataType → HostColumn → ℕ → Type 0
AreWhole type c count = (row : ℕ) → row < count → is_whole type c row ≡ true

-- the column that the arrays mean
abbrev pub host_column : HostColumn → ColumnValue
host_column c = record { name = c.name.now; dtype = type_of c; values = host_cells (type_of c) c }

-- the arrays mean a column: the name is UTF-8, there is a type, and each row whose flag is set has a value of it
pub record IsSound (c : HostColumn) : Type 0 where
  pub name : is_utf8 c.name.now ≡ true
  pub typed : has_type c ≡ true
  pub whole : AreWhole (type_of c) c (length c.present.now)
