-- The text of a frame: the byte order mark if asked, the header if asked, and then each row (docs/quoting.md).
use Rattle.std.specs.Prelude.{ℕ, Bool, true, false, ◌||◌, ◌==◌, if◌then◌else◌, List, [], length, ◌∷◌, ◌++◌, Option, None, Some, map}
use Rattle.std.specs.List.{list_any, join_with_byte, flat_map, range_with_len}
use Rattle.pl_frame.specs.declared.data_type.DataType.{DataType}
use Rattle.pl_frame.specs.ByteOrderMark.{byte_order_mark}
use Rattle.pl_frame.specs.Frame.{Scalar, Letters, ColumnValue, cell_at, height_of, names_of}
use Rattle.pl_frame.specs.Types.{is_numeric}
use Rattle.pl_text.specs.ValueText.{printed}

-- When a cell is quoted. As a number: 0 Necessary, 1 Always, 2 NonNumeric, 3 Never.
abbrev pub Style : Type 0
Style = ℕ

-- how a frame is written, as plain data
pub record WriteOptions : Type 0 where
  pub separator : ℕ
  pub quote : ℕ
  pub null : List ℕ
  pub terminator : List ℕ
  pub style : Style
  pub include_bom : Bool
  pub include_header : Bool

-- each quote twice
abbrev pub doubled : ℕ → List ℕ → List ℕ
doubled q text = flat_map (λ x. if x == q then q ∷ q ∷ [] else x ∷ []) text

-- a text between quotes, with each quote in it doubled
abbrev pub quoted : ℕ → List ℕ → List ℕ
quoted q text = q ∷ (doubled q text ++ q ∷ [])

-- the null text between quotes; it is never doubled
abbrev pub quoted_null : ℕ → List ℕ → List ℕ
quoted_null q null = q ∷ (null ++ q ∷ [])

-- what only a quoted text may hold: the separator, a line feed, a carriage return or the quote
abbrev pub is_special : ℕ → ℕ → ℕ → Bool
is_special separator q x = x == separator || x == 10 || x == 13 || x == q

-- the text is empty or holds one of these
abbrev pub needs_quotes : ℕ → ℕ → List ℕ → Bool
needs_quotes separator q text = length text == 0 || list_any (is_special separator q) text

-- a text that is no null, by style
abbrev pub written_text : WriteOptions → List ℕ → List ℕ
written_text o text =
    if o.style == 3 then text
    else if o.style == 0 then (if needs_quotes o.separator o.quote text then quoted o.quote text else text)
    else quoted o.quote text

-- a value that is no text stands without quotes: never in the style Always, where the type is numeric in NonNumeric, and
-- else always
abbrev pub is_bare : Style → Bool → Bool
is_bare style numeric = if style == 1 then false else if style == 2 then numeric else true

-- a value that is no text, by style
abbrev pub written_value : WriteOptions → Bool → List ℕ → List ℕ
written_value o numeric text = if is_bare o.style numeric then text else quoted o.quote text

-- what stands for a null, by style
abbrev pub written_null : WriteOptions → List ℕ
written_null o = if o.style == 1 then quoted_null o.quote o.null else o.null

-- the written cell
abbrev pub written_cell : WriteOptions → DataType → Option Scalar → List ℕ
written_cell o type None = written_null o
written_cell o type (Some (Letters text)) = written_text o text
written_cell o type (Some value) = written_value o (is_numeric type) (printed type value)

-- a line: texts joined by the separator, and the terminator
abbrev pub line : WriteOptions → List (List ℕ) → List ℕ
line o texts = join_with_byte o.separator texts ++ o.terminator

-- the line of the names
abbrev pub header_line : WriteOptions → List (List ℕ) → List ℕ
header_line o names = line o (map (written_text o) names)

-- the line of a row
abbrev pub row_line : WriteOptions → List ColumnValue → ℕ → List ℕ
row_line o columns row = line o (map (λ column. written_cell o column.dtype (cell_at column row)) columns)

-- the lines of this many rows, from one on
abbrev pub row_lines : WriteOptions → List ColumnValue → ℕ → ℕ → List ℕ
row_lines o columns from count = flat_map (row_line o columns) (range_with_len from count)

-- what stands before the rows
abbrev pub head_text : WriteOptions → List (List ℕ) → List ℕ
head_text o names = (if o.include_bom then byte_order_mark else []) ++ (if o.include_header then header_line o names else [])

-- the text of a frame
abbrev pub text_of_frame : WriteOptions → List ColumnValue → List ℕ
text_of_frame o columns = head_text o (names_of columns) ++ row_lines o columns 0 (height_of columns)
