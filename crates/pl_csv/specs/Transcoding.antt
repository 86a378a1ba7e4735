-- An input that is read, and its frame that is written (docs/command-line.md, "Statuses").
use Rattle.std.specs.Prelude.{◌≡◌, ◌⊎◌, ℕ, ◌<◌, Bool, not, nat_lt, List, ◌∷◌, ◌++◌, Option, Some, Result, Ok}
use Rattle.std.specs.Io.KnownBytes.{Appends}
use Rattle.pl_frame.specs.Causes.{Rose}
use Rattle.pl_frame.specs.declared.error.PolarsError.{PolarsError}
use Rattle.pl_frame.specs.declared.error.PolarsError.TheVariants as error
use Rattle.pl_frame.specs.declared.error.ComputeFault.TheVariants as compute_fault
use Rattle.pl_frame.specs.Frame.{ColumnValue}
use Rattle.pl_frame.specs.Schema.{Entry}
use Rattle.pl_text.specs.FrameText.{WriteOptions, text_of_frame}
use Rattle.pl_options.specs.declared.read_options.CsvReadOptions.{CsvReadOptions}
use Rattle.pl_options.specs.FirstCause.{when, IsFirstCause}
use Rattle.pl_read.specs.CsvReader.{AnswersUnlessFailed}
use Rattle.pl_read.specs.Options.{settled_schema}
use Rattle.pl_read.specs.Reading.{IsRead}
use Rattle.pl_read.specs.RoundTrip.{ComesBack}
use Rattle.pl_read.specs.Refusals.{early_causes, late_causes}
use Rattle.pl_write.specs.Options.{frame_options}
use Rattle.pl_write.specs.Writing.{AppendsPrefix}
use Rattle.pl_write.specs.declared.options.CsvWriterOptions.{CsvWriterOptions}
use Rattle.pl_csv.specs.Views.{SinkView}

-- ---- why an input has no frame that can be written

-- the quote with which the frame is written is not ASCII
abbrev pub quote_cause : CsvWriterOptions → Option PolarsError
quote_cause write = when (not (nat_lt write.serialize_options.quote_char 128)) (error.ComputeError compute_fault.Quote)

-- the causes against a frame that is written as well, in their order, given whether the marks are a dialect
abbrev pub all_causes : CsvReadOptions → List Entry → List ℕ → CsvWriterOptions → Bool → List (Option PolarsError)
all_causes read schema input write is_dialect = early_causes read is_dialect ++ quote_cause write ∷ late_causes read schema input

-- the first cause for which an input has no frame that can be written, given the settled schema
abbrev pub IsCause : CsvReadOptions → List Entry → List ℕ → CsvWriterOptions → PolarsError → Type 0
IsCause read schema input write first = IsFirstCause (all_causes read schema input write) read.parse_options (Some first)

-- ---- the frame that can be written

-- the quote with which the frame is written is ASCII
abbrev pub HasAsciiQuote : CsvWriterOptions → Type 0
HasAsciiQuote write = write.serialize_options.quote_char < 128

-- the frame that an input means, which can be written, given the settled schema
abbrev pub IsValidRead : CsvReadOptions → List Entry → List ℕ → CsvWriterOptions → List ColumnValue → Type 0
IsValidRead read schema input write frame = HasAsciiQuote write × IsRead read schema input frame

-- no frame that can be written was read: for the first cause, or for want of memory, which may be at any time
abbrev pub IsUnread : CsvReadOptions → List Entry → List ℕ → CsvWriterOptions → PolarsError → Type 0
IsUnread read schema input write fault = IsCause read schema input write fault ⊎ (fault ≡ error.OutOfMemory)

-- ---- what came of the sink

-- the input means the frame, and the sink received exactly its text
pub record IsTranscoded (read : CsvReadOptions) (write : CsvWriterOptions) (input : List ℕ) (received received_now : Option (List ℕ)) (frame : List ColumnValue) : Type 0 where
  pub is : IsValidRead read (settled_schema read input) input write frame
  pub written : Appends received received_now (text_of_frame (frame_options write) frame)

-- the input means a frame that can be written, and the sink received exactly its text
abbrev pub IsConverted : CsvReadOptions → CsvWriterOptions → List ℕ → (received received_now : Option (List ℕ)) → Type 0
IsConverted read write input received received_now = (frame : List ColumnValue) × IsTranscoded read write input received received_now frame

-- the input means a frame that can be written, and the sink received a prefix of its text
pub record IsCutShort (read : CsvReadOptions) (write : CsvWriterOptions) (input : List ℕ) (received received_now : Option (List ℕ)) : Type 0 where
  pub frame : List ColumnValue
  pub is : IsValidRead read (settled_schema read input) input write frame
  pub written : AppendsPrefix received received_now (text_of_frame (frame_options write) frame)

-- Why an input was not transcoded: a fault of the sink, whose count rose, cut the text short; memory was wanting, before the
-- first byte or behind a prefix of the text; or a cause stands against the frame, and the sink is as it was.
abbrev pub IsTranscodeFault : CsvReadOptions → CsvWriterOptions → List ℕ → SinkView → SinkView → PolarsError → Type 0
IsTranscodeFault read write input before now error.IO = Rose before.faults now.faults × IsCutShort read write input before.received now.received
IsTranscodeFault read write input before now error.OutOfMemory = (now ≡ before) ⊎ IsCutShort read write input before.received now.received
IsTranscodeFault read write input before now fault = IsCause read (settled_schema read input) input write fault × (now ≡ before)

-- ---- what is written is read again

-- where the input is the text of a frame that fits the way in which it was written, and the options match, the answer is that frame, up
-- to want of memory and a fault of the sink, whose count rose
abbrev pub ReturnsFrame : CsvReadOptions → CsvWriterOptions → List ℕ → (result : Result (List ColumnValue) PolarsError) → (before now : ℕ) → Type 0
ReturnsFrame read write input result before now =
    (written : WriteOptions) (columns : List ColumnValue) → ComesBack read written columns → HasAsciiQuote write → input ≡ text_of_frame written columns
    → AnswersUnlessFailed result (Ok columns) before now

-- ---- laws

-- an input has a frame that can be written, or a first cause against it; not both; and one such cause
pub record HasOneOutcome (read : CsvReadOptions) (schema : List Entry) (input : List ℕ) (write : CsvWriterOptions) : Type 0 where
  pub some : ((frame : List ColumnValue) × IsValidRead read schema input write frame) ⊎ ((first : PolarsError) × IsCause read schema input write first)
  pub apart : (frame : List ColumnValue) (first : PolarsError) → IsValidRead read schema input write frame → IsCause read schema input write first → ⊥
  pub one : (first other : PolarsError) → IsCause read schema input write first → IsCause read schema input write other → first ≡ other

-- where an input means a frame that can be written, and no count of the sink rose, only memory can be wanting
abbrev pub IsComplete : CsvReadOptions → CsvWriterOptions → List ℕ → Type 0
IsComplete read write input =
    (before now : SinkView) (frame : List ColumnValue) (fault : PolarsError)
    → IsValidRead read (settled_schema read input) input write frame
    → IsTranscodeFault read write input before now fault
    → ¬ Rose before.faults now.faults
    → fault ≡ error.OutOfMemory
