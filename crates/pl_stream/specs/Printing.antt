-- Rows of a stream that are read and printed; only the proofs of the code need this.
use Rattle.std.specs.Prelude.{◌≡◌, ℕ, zero, suc, ◌+◌, ◌<◌, ◌≤◌, true, List, [], ◌∷◌, ◌++◌, length, take, Option, Some, None, IfSome}
use Rattle.pl_frame.specs.declared.error.PolarsError.{PolarsError}
use Rattle.pl_frame.specs.declared.data_type.DataType.TheVariants as dtype
use Rattle.pl_frame.specs.Frame.{Letters, ColumnValue, names_of}
use Rattle.pl_frame.specs.Schema.{Entry}
use Rattle.pl_options.specs.declared.read_options.CsvReadOptions.{CsvReadOptions}
use Rattle.pl_options.specs.FirstCause.{IsFirstCause, first_some}
use Rattle.pl_options.specs.Text.{marks_of, comment_of}
use Rattle.pl_read.specs.declared.settle_given.Settled.{Settled}
use Rattle.pl_read.specs.Batches.{frame_behind}
use Rattle.pl_read.specs.Options.{rules_of}
use Rattle.pl_read.specs.Projection.{projected}
use Rattle.pl_read.specs.Refusals.{numbers_past}
use Rattle.pl_read.specs.SettleGiven.{given_schema, given_causes, IsSettled}
use Rattle.pl_rows.specs.declared.plan.RangePlan.{RangePlan}
use Rattle.pl_rows.specs.Plan.{rules_of as plan_rules}
use Rattle.pl_scan.specs.Dialect as scan
use Rattle.pl_seek.specs.Parts.{fault_in_rows}
use Rattle.pl_table.specs.Rows.{Row, rows}
use Rattle.pl_text.specs.FrameText.{WriteOptions, head_text}
use Rattle.pl_verbatim.specs.PrintedTexts.{IsFrontPrinted}
use Rattle.pl_write.specs.Batches.{all_lines}
use Rattle.pl_write.specs.Options.{frame_options}
use Rattle.pl_write.specs.declared.options.CsvWriterOptions.{CsvWriterOptions}
use Rattle.pl_stream.specs.declared.fault.StreamFault.{StreamFault}
use Rattle.pl_stream.specs.declared.fault.StreamFault.TheVariants as fault
use Rattle.pl_stream.specs.declared.whole.Whole.{Whole}
use Rattle.pl_stream.specs.Options.{first_categorical}
use Rattle.pl_stream.specs.Settled.{frame_of_first}
use Rattle.pl_stream.specs.Whole.{IsWholeFront, IsWholeEnd}

-- what rows of a stream are read by
pub record CanStream (o : CsvReadOptions) (settled : Settled) : Type 0 where
  pub is : IsSettled o (given_schema o) settled
  pub sound : IsFirstCause (given_causes o) o.parse_options None
  pub uncoded : first_categorical o ≡ None
  pub some : 0 < length (projected o (given_schema o))

-- a plan reads the last range by the options, up to a limit of its own
pub record IsStreamPlan (plan : RangePlan) (o : CsvReadOptions) (limit : Option ℕ) : Type 0 where
  pub marks_are : scan.marks_of plan.dialect ≡ marks_of o.parse_options
  pub comment_is : scan.comment_of plan.dialect ≡ comment_of o.parse_options
  pub rules_are : plan_rules plan ≡ rules_of o (given_schema o)
  pub places_are : plan.projection.places.now ≡ projected o (given_schema o)
  pub width_is : plan.projection.width ≡ length (given_schema o)
  pub limit_is : plan.limit ≡ limit
  pub is_last : plan.last ≡ true

-- the first so many rows of a text
abbrev pub first_rows : CsvReadOptions → ℕ → List ℕ → List Row
first_rows o count text = take count (rows (marks_of o.parse_options) (comment_of o.parse_options) text)

-- the first cause against rows behind so many others: the least of them that has a fault, or else the last number
abbrev pub rows_cause : CsvReadOptions → ℕ → List Row → Option PolarsError
rows_cause o before given = first_some (fault_in_rows o before given ∷ numbers_past o.row_index (before + length given) ∷ [])

-- the refusal is the first cause; or memory is wanting, which may be at any time
abbrev pub IsRowsFault : Option PolarsError → StreamFault → Type 0
IsRowsFault first (fault.Polars refusal) = first ≡ Some refusal
IsRowsFault first fault.OutOfMemory = Unit {0}
IsRowsFault first _ = ⊥

-- ---- their text

-- a name as a column of one text
abbrev pub name_column : List ℕ → ColumnValue
name_column name = record { name = name; dtype = dtype.String; values = Some (Letters name) ∷ [] }

-- what stands before the rows
abbrev pub stream_head : CsvReadOptions → CsvWriterOptions → List ℕ
stream_head o write = head_text (frame_options write) (names_of (frame_of_first o []))

-- the lines of rows behind so many others
abbrev pub lines_behind : CsvReadOptions → CsvWriterOptions → ℕ → List Row → List ℕ
lines_behind o write before given = all_lines (frame_options write) (frame_behind o (given_schema o) before given)

-- the lines of the front of records were appended to what a text had before
pub record IsPrintedOn (plan : RangePlan) (schema : List Entry) (o : WriteOptions) (records before now : List ℕ) (whole : Whole) : Type 0 where
  pub lines : List ℕ
  pub now_is : now ≡ before ++ lines
  pub front : IsFrontPrinted plan schema o records whole.end whole.rows lines

-- the rows of the whole items at the front of a text
abbrev pub front_rows : CsvReadOptions → List ℕ → Whole → List Row
front_rows o text whole = rows (marks_of o.parse_options) (comment_of o.parse_options) (take whole.end text)

-- the lines of the rows of whole items at the front of a text, behind so many others, were appended; no cause stands against them
pub record AreRowsPrinted (o : CsvReadOptions) (write : CsvWriterOptions) (before : ℕ) (records : List ℕ) (old now : List ℕ) (whole : Whole) : Type 0 where
  pub front : IsWholeFront o.parse_options records whole
  pub sound : rows_cause o before (front_rows o records whole) ≡ None
  pub lines : now ≡ old ++ lines_behind o write before (front_rows o records whole)

-- what stands before the rows, unless rows stand before them
abbrev pub head_once : CsvReadOptions → CsvWriterOptions → ℕ → List ℕ
head_once o write zero = stream_head o write
head_once o write (suc before) = []

-- what the settled text gains by rows behind so many others
abbrev pub gained_text : CsvReadOptions → CsvWriterOptions → ℕ → List Row → List ℕ
gained_text o write before [] = []
gained_text o write before (row ∷ others) = head_once o write before ++ lines_behind o write before (row ∷ others)

-- what the settled text gains by the rows of whole items at the front of a text, behind so many others, was appended; no cause stands against them
pub record AreSettled (o : CsvReadOptions) (write : CsvWriterOptions) (before : ℕ) (records : List ℕ) (old now : List ℕ) (whole : Whole) : Type 0 where
  pub front : IsWholeFront o.parse_options records whole
  pub sound : rows_cause o before (front_rows o records whole) ≡ None
  pub gained : now ≡ old ++ gained_text o write before (front_rows o records whole)

-- why the rows of all whole items at the front of a text, up to a limit, were not printed
abbrev pub IsPrintFault : CsvReadOptions → ℕ → Option ℕ → List ℕ → StreamFault → Type 0
IsPrintFault o before limit records fault.OutOfMemory = Unit {0}
IsPrintFault o before limit records given =
    (whole : Whole) × IsWholeFront o.parse_options records whole × IsWholeEnd o.parse_options records limit whole × IfSome limit (λ most. whole.rows ≤ most)
    × IsRowsFault (rows_cause o before (front_rows o records whole)) given
