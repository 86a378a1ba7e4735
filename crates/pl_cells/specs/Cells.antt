-- The cell of a field, for each type: a value, a null or a fault (docs/types.md, "Cells").
use Rattle.std.specs.Prelude.{ℕ, Bool, true, false, ◌&&◌, ◌==◌, not, if◌then◌else◌, List, [], ◌∷◌, length, Option, None, Some, is_none, Result, Ok, Err}
use Rattle.std.specs.Str.{is_utf8}
use Rattle.std.specs.Str.Lossy.{utf8_lossy}
use Rattle.pl_frame.specs.declared.data_type.DataType.{DataType}
use Rattle.pl_frame.specs.declared.data_type.DataType.TheVariants as dtype
use Rattle.pl_frame.specs.declared.error.FaultKind.{FaultKind}
use Rattle.pl_frame.specs.Frame.{Scalar, Letters}
use Rattle.pl_frame.specs.Types.{is_text, is_whole_number}
use Rattle.pl_cells.specs.declared.utf8.CsvEncoding.{CsvEncoding}
use Rattle.pl_cells.specs.declared.utf8.CsvEncoding.TheVariants as encoding
use Rattle.pl_cells.specs.Faults as fault
use Rattle.pl_cells.specs.Faults.{Fault, kind_of}
use Rattle.pl_cells.specs.Integers.{without_blanks}
use Rattle.pl_cells.specs.NullTest.{NullTest, null_test}
use Rattle.pl_cells.specs.Quoting.{strip, quote_of, is_well_quoted, inside, undouble}
use Rattle.pl_cells.specs.Values.{value_of_text}

-- a value or a null, or what is wrong
abbrev pub Cell : Type 0
Cell = Result (Option Scalar) Fault

-- how cells are read: what is done with bytes that are not UTF-8, whether a missing text is null, and whether a cell without a value is
pub record Reading : Type 0 where
  pub encoding : CsvEncoding
  pub missing_is_null : Bool
  pub ignore_errors : Bool

-- ---- the cell of a text

-- a text is UTF-8, or is read as UTF-8
abbrev pub string_cell : CsvEncoding → List ℕ → Cell
string_cell encoding.Utf8 text = if is_utf8 text then Ok (Some (Letters text)) else Err fault.Utf8
string_cell encoding.LossyUtf8 text = Ok (Some (Letters (utf8_lossy text)))

-- a text that has a value
abbrev pub value_cell : DataType → List ℕ → Cell
value_cell type text = elim (value_of_text type text) [ None ↦ Err fault.Value | Some value ↦ Ok (Some value) ]

-- a category is UTF-8, and has a value
abbrev pub category_cell : DataType → List ℕ → Cell
category_cell type text = if is_utf8 text then value_cell type text else Err fault.Utf8

-- no text is null
abbrev pub value_or_null : DataType → List ℕ → Cell
value_or_null type [] = Ok None
value_or_null type (x ∷ xs) = value_cell type (x ∷ xs)

-- the text whose value is taken: blanks in front of a whole number don't count
abbrev pub value_text : DataType → List ℕ → List ℕ
value_text type text = if is_whole_number type then without_blanks text else text

-- the cell of a text, by its type
abbrev pub text_cell : Reading → DataType → List ℕ → Cell
text_cell reading dtype.String text = string_cell reading.encoding text
text_cell reading dtype.Categorical text = category_cell dtype.Categorical text
text_cell reading (dtype.Enum (Some categories)) text = category_cell (dtype.Enum (Some categories)) text
text_cell reading type text = value_or_null type (value_text type text)

-- ---- the cell of a field

-- the value of a missing text: none, or the empty text where the column holds strings and missing ones are not null
abbrev pub missing_value : Bool → DataType → Option Scalar
missing_value is_null dtype.String = if is_null then None else Some (Letters [])
missing_value is_null type = None

-- a plain field
abbrev pub plain_cell : Reading → DataType → List ℕ → Cell
plain_cell reading type [] = Ok (missing_value reading.missing_is_null type)
plain_cell reading type (x ∷ xs) = text_cell reading type (x ∷ xs)

-- what stands between quotes: texts have their doubled quotes undoubled, and the empty one is not missing
abbrev pub quoted_cell : Reading → ℕ → DataType → List ℕ → Cell
quoted_cell reading q type text = if is_text type then text_cell reading type (undouble q text) else text_cell reading type text

-- the cell of a field without its carriage return, by its type, given the quote that it begins with
abbrev pub typed_cell : Reading → Option ℕ → DataType → List ℕ → Cell
typed_cell reading None type text = plain_cell reading type text
typed_cell reading (Some q) type text = quoted_cell reading q type (inside text)

-- where errors are ignored, a text without a value is null
abbrev pub softened : Bool → Cell → Cell
softened true (Err fault.Utf8) = Ok None
softened true (Err fault.Value) = Ok None
softened _ c = c

-- a quoted field that does not end with another quote
abbrev pub is_ill_quoted : Option ℕ → List ℕ → Bool
is_ill_quoted None text = false
is_ill_quoted (Some q) text = not (is_well_quoted q text)

-- a field that is empty and plain
abbrev pub is_missing : Option ℕ → List ℕ → Bool
is_missing quote text = is_none quote && length text == 0

-- the cell of a field without its carriage return, given the quote that it begins with: an ill quoted field is a fault, whatever
-- is ignored; one that means null is null, unless it is missing; any other is read by its type
abbrev pub stripped_cell : Reading → NullTest → Option ℕ → DataType → List ℕ → Cell
stripped_cell reading is_null quote type text =
    if is_ill_quoted quote text then Err fault.Escape
    else (if null_test is_null quote text && not (is_missing quote text) then Ok None
    else softened reading.ignore_errors (typed_cell reading quote type text))

-- the cell of a field, of which one carriage return at the end does not count
abbrev pub cell : Reading → NullTest → Option ℕ → DataType → List ℕ → Cell
cell reading is_null quote type field = stripped_cell reading is_null (quote_of quote field) type (strip field)

-- the value of a cell without a fault
abbrev pub value_of : Cell → Option Scalar
value_of (Ok value) = value
value_of (Err wrong) = None

-- the kind of fault that a cell has
abbrev pub fault_of : Cell → Option FaultKind
fault_of (Ok value) = None
fault_of (Err wrong) = Some (kind_of wrong)
