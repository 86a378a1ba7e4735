-- A value that is printed is read as that value (docs/types.md, "Printed" and "Values").
use Rattle.std.specs.Prelude.{◌≡◌, ◌≢◌, ◌⊎◌, ℕ, ◌+◌, ◌<◌, ◌≤◌, ℤ, Bool, true, false, not, ◌&&◌, ◌||◌, ◌==◌, nat_eq, List, [], ◌∷◌, ◌++◌, length, map, Option, None, Some, Ok}
use Rattle.std.specs.Char.{is_ascii_alphanumeric}
use Rattle.std.specs.List.{AllByRecursion, ends_with, flat_map, join_with_byte, list_all, range_with_len}
use Rattle.pl_frame.specs.declared.data_type.DataType.{DataType}
use Rattle.pl_frame.specs.declared.data_type.DataType.TheVariants as dtype
use Rattle.pl_frame.specs.declared.data_type.TimeUnit.{TimeUnit}
use Rattle.pl_frame.specs.Dialect.{Marks, AreDistinct}
use Rattle.pl_frame.specs.Columns.{is_value_of}
use Rattle.pl_frame.specs.Frame.{Scalar, Truth, Number, Letters, ColumnValue, cell_at}
use Rattle.pl_text.specs.ValueText.{printed}
use Rattle.pl_text.specs.FrameText.{WriteOptions, doubled, quoted, needs_quotes, written_null, written_cell, row_lines}
use Rattle.pl_frame.specs.Types.{is_readable, is_whole_number, is_text, is_within, signed_range}
use Rattle.pl_scan.specs.Fields.{is_plain as is_plain_byte, begins_quoted, fields}
use Rattle.pl_table.specs.Rows.{rows, ended_row}
use Rattle.pl_cells.specs.Cells.{Reading, missing_value, text_cell, cell}
use Rattle.pl_cells.specs.NullTest.{NullTest}
use Rattle.pl_cells.specs.Quoting.{is_well_quoted, inside, undouble}
use Rattle.pl_cells.specs.Values.{value_of_text}

-- each quote twice, and then two for one: the text
abbrev pub QuotesUndouble : Type 0
QuotesUndouble = (q : ℕ) (text : List ℕ) → undouble q (doubled q text) ≡ text

-- the value of its printed text is the value
abbrev pub Returns : DataType → Scalar → Type 0
Returns type value = value_of_text type (printed type value) ≡ Some value

-- between quotes, with two quotes for each that it holds: well quoted, and what stands inside undoubles to the text
abbrev pub QuotedReturn : Type 0
QuotedReturn = (q : ℕ) (text : List ℕ) → (is_well_quoted q (quoted q text) ≡ true) × (undouble q (inside (quoted q text)) ≡ text)

-- truth values
abbrev pub BooleansReturn : Type 0
BooleansReturn = (b : Bool) → Returns dtype.Boolean (Truth b)

-- whole numbers of each type, in its range
abbrev pub WholesReturn : Type 0
WholesReturn = (type : DataType) (n : ℤ) → is_whole_number type ≡ true → is_value_of type (Number n) ≡ true → Returns type (Number n)

-- texts of strings, categories and enums: UTF-8, and of an enum one of its categories
abbrev pub TextsReturn : Type 0
TextsReturn = (type : DataType) (text : List ℕ) → is_value_of type (Letters text) ≡ true → Returns type (Letters text)

-- days of the years 0000 to 9999
abbrev pub DatesReturn : Type 0
DatesReturn = (day : ℤ) → is_value_of dtype.Date (Number day) ≡ true → Returns dtype.Date (Number day)

-- nanoseconds of a day
abbrev pub TimesReturn : Type 0
TimesReturn = (n : ℤ) → is_value_of dtype.Time (Number n) ≡ true → Returns dtype.Time (Number n)

-- counts of units of the years 0000 to 9999 that fit 64 bits
abbrev pub DatetimesReturn : Type 0
DatetimesReturn =
    (unit : TimeUnit) (n : ℤ) → is_value_of (dtype.Datetime unit) (Number n) ≡ true → is_within (signed_range 64) n ≡ true
    → Returns (dtype.Datetime unit) (Number n)

-- decimals of each scale and precision that can be read, with no more digits than the precision
abbrev pub DecimalsReturn : Type 0
DecimalsReturn =
    (precision : Option ℕ) (scale : ℕ) (n : ℤ) → is_readable (dtype.Decimal precision (Some scale)) ≡ true
    → is_value_of (dtype.Decimal precision (Some scale)) (Number n) ≡ true → Returns (dtype.Decimal precision (Some scale)) (Number n)

-- ---- all types

-- where it counts the units of a datetime it fits 64 bits
abbrev pub fits_count : DataType → Scalar → Bool
fits_count (dtype.Datetime unit) (Number n) = is_within (signed_range 64) n
fits_count _ _ = true

-- a value of a type that can be read
pub record IsReadable (type : DataType) (value : Scalar) : Type 0 where
  pub can : is_readable type ≡ true
  pub held : is_value_of type value ≡ true
  pub counted : fits_count type value ≡ true

abbrev pub ValuesReturn : Type 0
ValuesReturn = (type : DataType) (value : Scalar) → IsReadable type value → Returns type value

-- as the text of a cell it is read as a cell with the value, under each way of reading
abbrev pub TextCellsReturn : Type 0
TextCellsReturn = (reading : Reading) (type : DataType) (value : Scalar) → IsReadable type value → text_cell reading type (printed type value) ≡ Ok (Some value)

-- a letter, a digit, `-`, `.` or `:`
abbrev pub is_printed_byte : ℕ → Bool
is_printed_byte x = is_ascii_alphanumeric x || (x == 45 || (x == 46 || x == 58))

abbrev pub are_plain : List ℕ → Bool
are_plain [] = true
are_plain (x ∷ xs) = is_printed_byte x && are_plain xs

-- what is no text is printed in such bytes, one or more
abbrev pub PrintedArePlain : Type 0
PrintedArePlain =
    (type : DataType) (value : Scalar) → is_text type ≡ false → IsReadable type value → (0 < length (printed type value)) × (are_plain (printed type value) ≡ true)

-- ---- fields

-- How a value is written so that its field is read as the value: the quote is no byte of a printed number and no carriage
-- return, under Never a text needs no quotes, and what is written does not mean null.
pub record IsWritable (o : WriteOptions) (is_null : NullTest) (type : DataType) (value : Scalar) : Type 0 where
  pub readable : IsReadable type value
  pub mark : is_printed_byte o.quote ≡ false
  pub no_return : o.quote ≢ 13
  pub bare : o.style ≡ 3 → is_text type ≡ true → needs_quotes o.separator o.quote (printed type value) ≡ false
  pub meant : is_null (written_cell o type (Some value)) ≡ false

-- the field that is written is read as the value
abbrev pub FieldsReturn : Type 0
FieldsReturn =
    (reading : Reading) (is_null : NullTest) (o : WriteOptions) (type : DataType) (value : Scalar) → IsWritable o is_null type value
    → cell reading is_null (Some o.quote) type (written_cell o type (Some value)) ≡ Ok (Some value)

-- How a null is written so that its field is read as a null: what is written means null, unless it is empty and what is missing is
-- null; the null text is not taken for a quoted one, and has no carriage return at its end.
pub record IsNullWritable (o : WriteOptions) (reading : Reading) (is_null : NullTest) (type : DataType) : Type 0 where
  pub missing : written_null o ≡ [] → missing_value reading.missing_is_null type ≡ None
  pub meant : 0 < length (written_null o) → is_null (written_null o) ≡ true
  pub bare : begins_quoted (Some o.quote) o.null ≡ false
  pub whole : ends_with nat_eq o.null (13 ∷ []) ≡ false
  pub no_return : o.quote ≢ 13

-- the field that is written of a null is read as a null
abbrev pub NullsReturn : Type 0
NullsReturn =
    (reading : Reading) (is_null : NullTest) (o : WriteOptions) (type : DataType) → IsNullWritable o reading is_null type
    → cell reading is_null (Some o.quote) type (written_cell o type None) ≡ Ok None

-- a carriage return behind a field does not count, where the field does not end with one
abbrev pub TailsReturn : Type 0
TailsReturn =
    (reading : Reading) (is_null : NullTest) (q : ℕ) (type : DataType) (field : List ℕ) → q ≢ 13 → ends_with nat_eq field (13 ∷ []) ≡ false
    → cell reading is_null (Some q) type (field ++ 13 ∷ []) ≡ cell reading is_null (Some q) type field

-- ---- lines

-- the byte is neither a mark of the dialect nor the quote
abbrev pub is_inner : Marks → ℕ → ℕ → Bool
is_inner m q x = is_plain_byte m x && not (x == q)

-- the text of a field, as it stands in a line: a text between quotes with its quotes doubled, and then bytes that are no marks, such
-- as a carriage return; or one that does not begin with the quote, and holds neither separator nor line end
abbrev pub IsFieldText : Marks → List ℕ → Type 0
IsFieldText m text =
    ((q : ℕ) × (inner : List ℕ) × (tail : List ℕ) × (m.quote ≡ Some q) × (text ≡ quoted q inner ++ tail) × (list_all (is_inner m q) tail ≡ true))
    ⊎ ((begins_quoted m.quote text ≡ false) × (list_all (is_plain_byte m) text ≡ true))

-- a line ends here: nothing follows, or a line end
abbrev pub EndsLine : Marks → List ℕ → Type 0
EndsLine m rest = (rest ≡ []) ⊎ ((behind : List ℕ) × (rest ≡ m.line_end ∷ behind))

-- such fields with separators between them are the fields of the line, whatever line follows
abbrev pub LinesReturn : Type 0
LinesReturn =
    (m : Marks) (texts : List (List ℕ)) (rest : List ℕ) → AreDistinct m → 0 < length texts → AllByRecursion (IsFieldText m) texts → EndsLine m rest
    → fields m (join_with_byte m.separator texts ++ rest) ≡ texts

-- the marks by which written lines are cut: the separator and the quote that are written, and a line feed
abbrev pub line_marks : WriteOptions → Marks
line_marks o = record { separator = o.separator; quote = Some o.quote; line_end = 10 }

-- what stands between the last cell of a line and its line feed: nothing, or a carriage return
abbrev pub IsLineTail : List ℕ → Type 0
IsLineTail tail = (tail ≡ []) ⊎ (tail ≡ 13 ∷ [])

-- lines that are written can be cut: the marks differ, and neither is a carriage return, nor the separator a byte of a printed number
pub record AreApart (o : WriteOptions) : Type 0 where
  pub distinct : AreDistinct (line_marks o)
  pub no_return : o.quote ≢ 13
  pub separator_no_return : o.separator ≢ 13
  pub separator_no_number : is_printed_byte o.separator ≡ false

-- what is written of a value is the text of a field, also at the end of a line
abbrev pub ValuesAreFields : Type 0
ValuesAreFields =
    (o : WriteOptions) (is_null : NullTest) (type : DataType) (value : Scalar) (tail : List ℕ) → IsWritable o is_null type value → AreApart o → IsLineTail tail
    → IsFieldText (line_marks o) (written_cell o type (Some value) ++ tail)

-- and so is what is written of a null, where the null text holds neither mark nor quote
abbrev pub NullsAreFields : Type 0
NullsAreFields =
    (o : WriteOptions) (type : DataType) (tail : List ℕ) → list_all (is_inner (line_marks o) o.quote) o.null ≡ true → AreApart o → IsLineTail tail
    → IsFieldText (line_marks o) (written_cell o type None ++ tail)

-- a line of texts, with a separator between two of them and a line end behind the last
abbrev pub line_of : Marks → List (List ℕ) → List ℕ
line_of m texts = join_with_byte m.separator texts ++ m.line_end ∷ []

-- a line has fields, each the text of one
abbrev pub IsLine : Marks → List (List ℕ) → Type 0
IsLine m texts = (0 < length texts) × AllByRecursion (IsFieldText m) texts

-- lines of such fields are the rows of their text, comments being none: a row each, with these fields
abbrev pub RowsReturn : Type 0
RowsReturn = (m : Marks) (lines : List (List (List ℕ))) → AreDistinct m → AllByRecursion (IsLine m) lines → rows m None (flat_map (line_of m) lines) ≡ map ended_row lines

-- ---- the rows of a frame

-- the last of some texts with bytes behind it
abbrev pub with_tail : List ℕ → List (List ℕ) → List (List ℕ)
with_tail tail [] = []
with_tail tail (text ∷ []) = (text ++ tail) ∷ []
with_tail tail (text ∷ next ∷ texts) = text ∷ with_tail tail (next ∷ texts)

-- what is written of the cells of a row
abbrev pub written_texts : WriteOptions → List ColumnValue → ℕ → List (List ℕ)
written_texts o columns row = map (λ column. written_cell o column.dtype (cell_at column row)) columns

-- a cell can be written so that it is a field: a value that is writable, or a null, whose text holds neither mark nor quote
abbrev pub IsCellWritable : WriteOptions → NullTest → DataType → Option Scalar → Type 0
IsCellWritable o is_null type None = list_all (is_inner (line_marks o) o.quote) o.null ≡ true
IsCellWritable o is_null type (Some value) = IsWritable o is_null type value

-- The lines that are written of some rows of a frame with columns are rows again, one for each, whose fields are what is written of
-- its cells, the last with the carriage return that may stand before the line feed.
abbrev pub FrameRowsReturn : Type 0
FrameRowsReturn =
    (o : WriteOptions) (is_null : ColumnValue → NullTest) (columns : List ColumnValue) (from count : ℕ) (tail : List ℕ)
    → AreApart o → IsLineTail tail → o.terminator ≡ tail ++ 10 ∷ [] → 0 < length columns
    → ((row : ℕ) → from ≤ row → row < from + count → AllByRecursion (λ column. IsCellWritable o (is_null column) column.dtype (cell_at column row)) columns)
    → rows (line_marks o) None (row_lines o columns from count) ≡ map (λ row. ended_row (with_tail tail (written_texts o columns row))) (range_with_len from count)
