-- How the rows of the next batches are read.
use Rattle.std.specs.Prelude.{◌≡◌, ℕ, ◌+◌, ◌<◌, ◌≤◌, ◌⊎◌, List, length, map, take, drop, None, Some, IfSome}
use Rattle.std.specs.List.{flat_map, AllByRecursion}
use Rattle.pl_frame.specs.Dialect.{AreDistinct}
use Rattle.pl_frame.specs.Schema.{Entry}
use Rattle.pl_frame.specs.declared.error.PolarsError.{PolarsError}
use Rattle.pl_frame.specs.declared.error.PolarsError.TheVariants as error
use Rattle.pl_scan.specs.Dialect as scan
use Rattle.pl_cells.specs.InitBuffers.{first_unreadable}
use Rattle.pl_cells.specs.NullValues.{HaveTexts}
use Rattle.pl_options.specs.declared.read_options.CsvReadOptions.{CsvReadOptions}
use Rattle.pl_options.specs.Text.{marks_of, comment_of}
use Rattle.pl_rows.specs.declared.plan.RangePlan.{RangePlan}
use Rattle.pl_rows.specs.Pieces.{left_limit}
use Rattle.pl_rows.specs.Plan.{AreRising}
use Rattle.pl_rows.specs.Ranges.{IsRangeRead}
use Rattle.pl_rows.specs.Rows.{first_faulty}
use Rattle.pl_table.specs.Rows.{Row, rows}
use Rattle.pl_read.specs.declared.batch_parts.Part.{Part}
use Rattle.pl_read.specs.declared.batch_parts.Parts.{Parts}
use Rattle.pl_read.specs.declared.next_frames.Behind.{Behind}
use Rattle.pl_read.specs.declared.next_frames.NextFrames.{NextFrames}
use Rattle.pl_read.specs.Batches.{EndsAtItem, AreFramesOf, batch_text, rows_behind, index_behind, codes_past_rows}
use Rattle.pl_read.specs.Options.{rules_of}
use Rattle.pl_read.specs.Refusals.{numbers_past}
use Rattle.pl_read.specs.Rows.{columns_read}
use Rattle.pl_read.specs.Steps.{CanReadData}

-- options by which the rows behind so many others are those of a read: as many as the limit leaves, with numbers that begin so
-- many later
abbrev pub options_behind : CsvReadOptions → ℕ → CsvReadOptions
options_behind o before = record o { n_rows = left_limit o.n_rows before; row_index = index_behind before o.row_index }

-- ---- parts of a text

-- what parts are read of
abbrev pub texts_of : List Part → List (List ℕ)
texts_of parts = map (λ part. part.text.now) parts

-- the records of a text
abbrev pub records_of : CsvReadOptions → List ℕ → List Row
records_of o text = rows (marks_of o.parse_options) (comment_of o.parse_options) text

-- parts of the text of the next batches: one or more, and so many at most, whose records together are those of the text
pub record AreParts (o : CsvReadOptions) (n : ℕ) (rest : List ℕ) (cut : Parts) : Type 0 where
  pub text : take cut.end rest ≡ batch_text o n rest
  pub some : 0 < cut.end
  pub within : cut.end ≤ length rest
  pub start : (cut.end ≡ length rest) ⊎ EndsAtItem o (take cut.end rest)
  pub one : 0 < length cut.parts.items
  pub few : length cut.parts.items ≤ n
  pub rows_are : flat_map (records_of o) (texts_of cut.parts.items) ≡ records_of o (take cut.end rest)

-- ---- parts that are read behind so many rows

-- a text can be read by a plan into columns of a schema
pub record CanReadPart (plan : RangePlan) (schema : List Entry) : Type 0 where
  pub apart : AreDistinct (scan.marks_of plan.dialect)
  pub width : plan.projection.width ≡ length schema
  pub rising : AreRising 0 (length schema) plan.projection.places.now
  pub readable : first_unreadable schema plan.projection.places.now ≡ None
  pub texts : HaveTexts plan.options.null_values (length schema)

-- all that is read so can be read
abbrev pub CanReadBehind : Behind → Type 0
CanReadBehind b = (text : List ℕ) → CanReadData b.plan (options_behind b.options.now b.rows) b.schema.now text

-- the rows of parts
abbrev pub rows_of_parts : Behind → List Part → List Row
rows_of_parts b parts = flat_map (rows_behind b.options.now b.rows) (texts_of parts)

-- each part that has columns was read
abbrev pub HaveRead : Behind → List Part → Type 0
HaveRead b parts = AllByRecursion (λ part. IfSome part.read (IsRangeRead b.plan b.schema.now part.text.now)) parts

-- parts of a text that were read: one or more, and so many at most, whose rows together are those of the text
pub record AreReadParts (b : Behind) (text : List ℕ) (most : ℕ) (parts : List Part) : Type 0 where
  pub one : 0 < length parts
  pub few : length parts ≤ most
  pub rows_are : rows_of_parts b parts ≡ rows_behind b.options.now b.rows text
  pub read : HaveRead b parts

-- ---- their frames

-- a code in a frame of some of the rows does not fit 32 bits; or memory is wanting, which may be at any time
abbrev pub IsCodesFault : CsvReadOptions → List Entry → List Row → PolarsError → Type 0
IsCodesFault o schema given fault = ((from count : ℕ) × (codes_past_rows o schema (take count (drop from given)) ≡ Some fault)) ⊎ (fault ≡ error.OutOfMemory)

-- frames of the rows of parts, as many as there are parts, none of which has a fault and in none of which a number does not fit
pub record IsFinished (b : Behind) (parts : List Part) (end : ℕ) (next : NextFrames) : Type 0 where
  pub frames_are : AreFramesOf b.options.now b.schema.now b.rows (rows_of_parts b parts) next.frames.items
  pub count : length next.frames.items ≡ length parts
  pub sound : first_faulty (rules_of b.options.now b.schema.now) (columns_read b.options.now b.schema.now) b.rows (rows_of_parts b parts) ≡ None
  pub numbered : numbers_past b.options.now.row_index (b.rows + length (rows_of_parts b parts)) ≡ None
  pub rows_are : next.rows ≡ length (rows_of_parts b parts)
  pub end_is : next.end ≡ end
