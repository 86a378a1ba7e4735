-- The input that a source gives, and what is converted of it as it comes (docs/workers.md, "From a source to regions").
use Rattle.std.specs.Prelude.{◌≡◌, ◌⊎◌, ℕ, ◌^◌, ◌<◌, ◌≤◌, List, ◌++◌, length, Option, IsSome, None}
use Rattle.std.specs.Io.KnownBytes.{Consumes, IsAtEnd}
use Rattle.pl_frame.specs.Came.{Came}
use Rattle.pl_frame.specs.Causes.{Rose}
use Rattle.pl_frame.specs.Schema.{Entry}
use Rattle.pl_frame.specs.declared.error.PolarsError.{PolarsError}
use Rattle.pl_frame.specs.declared.error.PolarsError.TheVariants as error
use Rattle.pl_frame.specs.declared.read_all.ReadAllFault.{ReadAllFault}
use Rattle.pl_frame.specs.declared.read_all.ReadAllFault.TheVariants as read_fault
use Rattle.pl_options.specs.declared.read_options.CsvReadOptions.{CsvReadOptions}
use Rattle.pl_read.specs.Options.{settled_schema}
use Rattle.pl_read.specs.Preparing.{IsPrepared}
use Rattle.pl_read.specs.Steps.{MayRead, opening_cause, CanReadData}
use Rattle.pl_read.specs.declared.preparing.Prepared.{Prepared}
use Rattle.pl_regions.specs.declared.printing.PrintedRows.{PrintedRows}
use Rattle.pl_regions.specs.Printing.{IsPrinted}
use Rattle.pl_rows.specs.declared.plan.RangePlan.{RangePlan}
use Rattle.pl_write.specs.Options.{cell_options}
use Rattle.pl_write.specs.declared.options.CsvWriterOptions.{CsvWriterOptions}
use Rattle.pl_csv.specs.Converting.{IsRowByRow}
use Rattle.pl_csv.specs.Transcoding.{HasAsciiQuote, IsUnread, IsConverted, IsTranscodeFault}
use Rattle.pl_csv.specs.Views.{SourceView, Views}
use Rattle.pl_csv.specs.declared.convert_source.Unconverted.{Unconverted}
use Rattle.pl_csv.specs.declared.convert_source.Unconverted.TheVariants as unconverted

-- ---- what came

-- the source gave this input of at most 2 ^ 36 bytes and was read to its end
pub record HasCome (before now : Option (List ℕ)) (input : List ℕ) : Type 0 where
  pub came : Consumes before now input
  pub end : IsAtEnd now
  pub within : length input ≤ 2 ^ 36

-- more than 2 ^ 36 bytes came
abbrev pub IsTooLong : Option (List ℕ) → Option (List ℕ) → Type 0
IsTooLong left left_now = Came left left_now (λ bytes. 2 ^ 36 < length bytes)

-- the source failed, after at most 2 ^ 36 bytes
abbrev pub HasFailed : SourceView → SourceView → Type 0
HasFailed before now = Rose before.faults now.faults × Came before.left now.left (λ bytes. length bytes ≤ 2 ^ 36)

-- ---- what came of it

-- the source gave an input that means a frame which can be written, and the sink received exactly its text
abbrev pub IsSourceConverted : CsvReadOptions → CsvWriterOptions → (left left_now received received_now : Option (List ℕ)) → Type 0
IsSourceConverted read write left left_now received received_now = (input : List ℕ) × HasCome left left_now input × IsConverted read write input received received_now

-- why what a source gives was not converted: it failed, or gave too much; memory was wanting before the first byte was written; or the input that
-- it gave was not transcoded
abbrev pub IsUnconverted : CsvReadOptions → CsvWriterOptions → Views → Views → Unconverted → Type 0
IsUnconverted read write before now unconverted.Source = HasFailed before.source now.source × (now.out ≡ before.out)
IsUnconverted read write before now unconverted.TooLong = IsTooLong before.source.left now.source.left × (now.out ≡ before.out)
IsUnconverted read write before now (unconverted.Polars fault) =
    ((fault ≡ error.OutOfMemory) × (now.out ≡ before.out))
    ⊎ ((input : List ℕ) × HasCome before.source.left now.source.left input × IsTranscodeFault read write input before.out now.out fault)

-- the same as the error that a read or a write answers; a source that gives too many bytes counts as out of memory
abbrev pub error_of_unconverted : Unconverted → PolarsError
error_of_unconverted unconverted.Source = error.IO
error_of_unconverted unconverted.TooLong = error.OutOfMemory
error_of_unconverted (unconverted.Polars fault) = fault

-- why a source was not read to its end
abbrev pub unread_of : ReadAllFault → Unconverted
unread_of read_fault.Source = unconverted.Source
unread_of read_fault.TooLong = unconverted.TooLong
unread_of read_fault.OutOfMemory = unconverted.Polars error.OutOfMemory

-- why nothing was printed of what a source gives: it failed, or gave too much; memory was wanting; or the input that it gave means no frame that
-- can be written
abbrev pub IsUnprinted : CsvReadOptions → CsvWriterOptions → SourceView → SourceView → Unconverted → Type 0
IsUnprinted read write before now unconverted.Source = HasFailed before now
IsUnprinted read write before now unconverted.TooLong = IsTooLong before.left now.left
IsUnprinted read write before now (unconverted.Polars fault) =
    (fault ≡ error.OutOfMemory) ⊎ ((input : List ℕ) × HasCome before.left now.left input × IsUnread read (settled_schema read input) input write fault)

-- ---- what is known before all came

-- the source gave these bytes so far
pub record IsKept (before now : SourceView) (kept : List ℕ) : Type 0 where
  pub came : Consumes before.left now.left kept
  pub later : before.faults ≤ now.faults

-- the options may stand, a schema is given, and no lines are skipped: where the records begin is told by a front of the input
pub record MayReadAhead (read : CsvReadOptions) (write : CsvWriterOptions) : Type 0 where
  pub allowed : MayRead read
  pub quote : HasAsciiQuote write
  pub given : IsSome read.schema
  pub lines : read.skip_lines ≡ 0

-- what the rows of an input are read by: no cause against it stands before those of its rows, and these may be printed as they are read
pub record IsReadBy (read : CsvReadOptions) (write : CsvWriterOptions) (input : List ℕ) (prepared : Prepared) : Type 0 where
  pub is : IsPrepared read (settled_schema read input) input prepared
  pub sound : opening_cause read (settled_schema read input) input ≡ None
  pub plain : (records : List ℕ) → length records ≤ 2 ^ 36 → IsRowByRow read write prepared.schema records

-- a front of an input tells what the rows are read by, whatever stands behind it; they begin within it
pub record IsReadAhead (read : CsvReadOptions) (write : CsvWriterOptions) (first : List ℕ) (prepared : Prepared) : Type 0 where
  pub within : prepared.start ≤ length first
  pub is : (rest : List ℕ) → IsReadBy read write (first ++ rest) prepared

-- ---- data whose rows were printed

-- data can be read row by row, and its rows were printed
pub record ArePrintedOf (plan : RangePlan) (read : CsvReadOptions) (schema : List Entry) (write : CsvWriterOptions) (records : List ℕ) (printed : PrintedRows) : Type 0 where
  pub can : CanReadData plan read schema records
  pub plain : IsRowByRow read write schema records
  pub is : IsPrinted plan schema (cell_options write.serialize_options) records printed
