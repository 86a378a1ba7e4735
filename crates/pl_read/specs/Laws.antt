-- Laws of the reference read (docs/options.md, "What a limit and a projection give").
use Rattle.std.specs.Prelude.{◌≡◌, ◌≢◌, ◌↔◌, ℕ, zero, suc, ◌+◌, ◌≤◌, false, not, ◌==◌, List, [], ◌∷◌, ◌++◌, length, drop, Option, None, Some, IsSome}
use Rattle.std.specs.List.{prefix_len}
use Rattle.pl_frame.specs.Compression.{is_compressed}
use Rattle.pl_frame.specs.Frame.{ColumnValue}
use Rattle.pl_frame.specs.FrameParts.{sliced, columns_at}
use Rattle.pl_frame.specs.Schema.{Entry}
use Rattle.pl_frame.specs.declared.error.PolarsError.{PolarsError}
use Rattle.pl_options.specs.declared.read_options.CsvReadOptions.{CsvReadOptions}
use Rattle.pl_options.specs.declared.row_index.RowIndex.{RowIndex}
use Rattle.pl_scan.specs.Closing.{ends_open}
use Rattle.pl_table.specs.Rows.{rows}
use Rattle.pl_options.specs.Text.{marks_of, comment_of}
use Rattle.pl_infer.specs.Inference.{inference_of, first_record}
use Rattle.pl_read.specs.Options.{data_of, settled_schema}
use Rattle.pl_read.specs.Projection.{asked, projected, unknown_column, outside, doubled}
use Rattle.pl_read.specs.Reading.{IsRead, IsRefusal}

-- ---- projection

-- the options with all columns asked
abbrev pub unprojected : CsvReadOptions → CsvReadOptions
unprojected o = record o { columns = None; projection = None }

-- the columns at these places of a frame, not counting the row index, which stays in front where there is one
abbrev pub selected : Option RowIndex → List ℕ → List ColumnValue → List ColumnValue
selected None places columns = columns_at places columns
selected (Some index) places [] = []
selected (Some index) places (numbers ∷ columns) = numbers ∷ columns_at places columns

-- some columns are asked; each is one of the schema's, and none is asked twice
pub record IsProjection (o : CsvReadOptions) (schema : List Entry) : Type 0 where
  pub some : asked o schema ≢ []
  pub known : unknown_column o schema ≡ None
  pub within : outside o schema ≡ None
  pub once : doubled (asked o schema) (length schema) ≡ None

-- Where the read of all columns succeeds, a read of some of them gives these columns in the order of the schema, behind the
-- row index where one is asked.
abbrev pub ProjectionSelects : Type 0
ProjectionSelects = (o : CsvReadOptions) (schema : List Entry) (input : List ℕ) (frame : List ColumnValue) → IsProjection o schema
    → IsRead (unprojected o) schema input frame → IsRead o schema input (selected o.row_index (projected o schema) frame)

-- ---- limits

-- the options without a limit of rows
abbrev pub unlimited : CsvReadOptions → CsvReadOptions
unlimited o = record o { n_rows = None }

-- where the unlimited read succeeds, the limited one is its first rows
abbrev pub LimitTakesFirstRows : Type 0
LimitTakesFirstRows = (o : CsvReadOptions) (n : ℕ) (schema : List Entry) (input : List ℕ) (frame : List ColumnValue) → o.n_rows ≡ Some n
    → IsRead (unlimited o) schema input frame → IsRead o schema input (sliced 0 n frame)

-- what stands behind the first line end
abbrev pub behind_line : ℕ → List ℕ → List ℕ
behind_line e b = drop (prefix_len (λ x. not (x == e)) b + 1) b

-- each of so many lines ends in a text with a byte behind it, so that all of them are skipped
abbrev pub HoldsLines : ℕ → ℕ → List ℕ → Type 0
HoldsLines e zero b = Unit {0}
HoldsLines e (suc n) b = (behind_line e b ≢ []) × HoldsLines e n (behind_line e b)

-- A text that decides a read of at most so many rows: the lines that are to be skipped are whole in it, it has so many records
-- behind its starting point, and the last of its items ends with a line end.
pub record Decides (o : CsvReadOptions) (n : ℕ) (b : List ℕ) : Type 0 where
  pub lines : HoldsLines o.parse_options.eol_char o.skip_lines b
  pub records : List ℕ
  pub start : data_of o b ≡ Some records
  pub enough : n ≤ length (rows (marks_of o.parse_options) (comment_of o.parse_options) records)
  pub closed : ends_open (marks_of o.parse_options) (comment_of o.parse_options) records ≡ false
  pub front : List ℕ
  pub line_end : records ≡ front ++ o.parse_options.eol_char ∷ []

-- Where a schema is given, a limited read depends on such a text alone: every input that begins with it has the same frame, or
-- the same refusal, where both or neither begin with the mark of a compressed stream.
abbrev pub LimitedReadDependsOnPrefix : Type 0
LimitedReadDependsOnPrefix = (o : CsvReadOptions) (n : ℕ) (schema : List Entry) (b rest : List ℕ) → IsSome o.schema → o.n_rows ≡ Some n → Decides o n b → is_compressed (b ++ rest) ≡ is_compressed b
    → ((frame : List ColumnValue) → IsRead o schema b frame ↔ IsRead o schema (b ++ rest) frame)
    × ((refusal : PolarsError) → IsRefusal o schema b refusal ↔ IsRefusal o schema (b ++ rest) refusal)

-- ---- no schema

-- Where no schema is given and an input has a read, its schema has no column exactly where it has no record to infer one from;
-- and then such an input is not refused.
abbrev pub SchemaIsEmptyWithoutRecord : Type 0
SchemaIsEmptyWithoutRecord = (o : CsvReadOptions) (input : List ℕ) (frame : List ColumnValue) → o.schema ≡ None → IsRead o (settled_schema o input) input frame
    → settled_schema o input ≡ [] ↔ (first_record (inference_of o) input ≡ None) × (o.raise_if_empty ≡ false)
