-- When a frame that is written comes back as it is (docs/quoting.md, "What comes back").
use Rattle.std.specs.Prelude.{◌≡◌, ◌≢◌, ◌⊎◌, ℕ, ◌^◌, ◌≤◌, Bool, true, false, nat_eq, List, [], ◌∷◌, length, Option, None, Some}
use Rattle.std.specs.List.{AllByRecursion, list_any, starts_with}
use Rattle.pl_frame.specs.declared.data_type.DataType.{DataType}
use Rattle.pl_frame.specs.declared.data_type.DataType.TheVariants as dtype
use Rattle.pl_frame.specs.Columns.{is_value_of, dictionary}
use Rattle.pl_frame.specs.Compression.{is_compressed}
use Rattle.pl_frame.specs.Dialect.{IsDialect}
use Rattle.pl_frame.specs.Frame.{Scalar, ColumnValue, names_of}
use Rattle.pl_text.specs.ValueText.{printed}
use Rattle.pl_frame.specs.ByteOrderMark.{byte_order_mark}
use Rattle.pl_text.specs.FrameText.{WriteOptions, is_special, needs_quotes, written_null, written_cell, text_of_frame}
use Rattle.pl_frame.specs.Types.{is_readable, is_text}
use Rattle.pl_round_trip.specs.RoundTrip.{fits_count, line_marks, is_printed_byte}

-- a byte of the text is the separator, a line feed, a carriage return or the quote
abbrev pub has_special : WriteOptions → List ℕ → Bool
has_special o text = list_any (is_special o.separator o.quote) text

-- a line ends with a line feed, or with a carriage return and a line feed
abbrev pub IsLineEnding : List ℕ → Type 0
IsLineEnding terminator = (terminator ≡ 10 ∷ []) ⊎ (terminator ≡ 13 ∷ 10 ∷ [])

-- A way of writing that can be read again: lines end as above; separator, quote and line feed are a dialect; neither separator nor
-- quote is a letter, a digit, `-`, `.` or `:`; and the null text holds none of the bytes that only a quoted text may hold.
pub record FitsOptions (o : WriteOptions) : Type 0 where
  pub terminator : IsLineEnding o.terminator
  pub dialect : IsDialect (line_marks o) None
  pub separator : is_printed_byte o.separator ≡ false
  pub quote : is_printed_byte o.quote ≡ false
  pub null : has_special o o.null ≡ false

-- A value that comes back: it is one of its type, a datetime's count fits 64 bits, what is written of it is not what is written of a
-- null, and under Never a text needs no quotes.
pub record FitsValue (o : WriteOptions) (type : DataType) (value : Scalar) : Type 0 where
  pub held : is_value_of type value ≡ true
  pub counted : fits_count type value ≡ true
  pub apart : written_cell o type (Some value) ≢ written_null o
  pub bare : o.style ≡ 3 → is_text type ≡ true → needs_quotes o.separator o.quote (printed type value) ≡ false

-- a cell that comes back: each null does
abbrev pub FitsCell : WriteOptions → DataType → Option Scalar → Type 0
FitsCell o type None = Unit {0}
FitsCell o type (Some value) = FitsValue o type value

-- a column that comes back: its type can be read, each cell comes back, and its categories have codes of 32 bits
pub record FitsColumn (o : WriteOptions) (column : ColumnValue) : Type 0 where
  pub readable : is_readable column.dtype ≡ true
  pub cells : AllByRecursion (FitsCell o column.dtype) column.values
  pub codes : column.dtype ≡ dtype.Categorical → length (dictionary column.dtype column.values) ≤ 2 ^ 32

-- under Never a name holds none of the bytes that only a quoted text may hold
abbrev pub FitsName : WriteOptions → List ℕ → Type 0
FitsName o name = o.style ≡ 3 → has_special o name ≡ false

-- a text begins neither with the mark of a compressed stream nor, unless one was asked, with a byte order mark
pub record IsUnmarked (o : WriteOptions) (text : List ℕ) : Type 0 where
  pub uncompressed : is_compressed text ≡ false
  pub unmarked : o.include_bom ≡ false → starts_with nat_eq text byte_order_mark ≡ false

-- A frame comes back from its text: the way of writing fits, each column and, where they are written, each name, and the text begins with
-- no mark.
pub record Fits (o : WriteOptions) (columns : List ColumnValue) : Type 0 where
  pub options : FitsOptions o
  pub each : AllByRecursion (FitsColumn o) columns
  pub names : o.include_header ≡ true → AllByRecursion (FitsName o) (names_of columns)
  pub start : IsUnmarked o (text_of_frame o columns)
