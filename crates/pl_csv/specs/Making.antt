-- What a making job does with the input that it makes (docs/command-line.md, "A made input").
use Rattle.std.specs.Prelude.{◌≡◌, ◌⊎◌, ℕ, ◌<◌, ◌≤◌, ◌==◌, ◌||◌, if◌then◌else◌, List, [], ◌∷◌, ◌++◌, length, codes, decimal, Option, None, Some}
use Rattle.std.specs.Io.KnownBytes.{Appends}
use Rattle.pl_frame.specs.Causes.{Rose}
use Rattle.pl_frame.specs.Frame.{ColumnValue, height_of}
use Rattle.pl_frame.specs.Schema.{Entry}
use Rattle.pl_text.specs.FrameText.{text_of_frame}
use Rattle.pl_frame.specs.declared.data_type.DataType.TheVariants as dtype
use Rattle.pl_frame.specs.declared.error.OpFault.TheVariants as op_fault
use Rattle.pl_frame.specs.declared.error.PolarsError.{PolarsError}
use Rattle.pl_frame.specs.declared.error.PolarsError.TheVariants as error
use Rattle.pl_options.specs.Options.{default_read_options}
use Rattle.pl_options.specs.declared.read_options.CsvReadOptions.{CsvReadOptions}
use Rattle.pl_read.specs.Options.{settled_schema}
use Rattle.pl_write.specs.Options.{default_options, frame_options}
use Rattle.pl_write.specs.Writing.{AppendsPrefix}
use Rattle.pl_write.specs.declared.options.CsvWriterOptions.{CsvWriterOptions}
use Rattle.pl_csv.specs.MadeInput.{made_input}
use Rattle.pl_csv.specs.Transcoding.{IsValidRead, IsTranscoded}
use Rattle.pl_csv.specs.Views.{SinkView}

-- ---- how a made input is read

-- its columns
abbrev pub made_schema : List Entry
made_schema =
    (codes "id", dtype.Int64)
    ∷ (codes "name", dtype.String)
    ∷ (codes "day", dtype.Date)
    ∷ (codes "amount", dtype.Decimal None (Some 2))
    ∷ []

-- it is read under this schema, by so many workers in pieces of so many bytes
abbrev pub made_options : ℕ → ℕ → CsvReadOptions
made_options workers piece = record default_read_options { schema = Some made_schema; n_threads = Some workers; chunk_size = piece }

-- the frame that it means, which can be written
abbrev pub IsMadeFrame : ℕ → ℕ → ℕ → List ColumnValue → Type 0
IsMadeFrame rows workers piece frame =
    IsValidRead (made_options workers piece) (settled_schema (made_options workers piece) (made_input rows)) (made_input rows) default_options frame

-- an input was transcoded, behind these bytes, as a frame of so many rows
pub record HasHeight (read : CsvReadOptions) (write : CsvWriterOptions) (input received received_now : List ℕ) (rows : ℕ) : Type 0 where
  pub frame : List ColumnValue
  pub is : IsTranscoded read write input (Some received) (Some received_now) frame
  pub height : rows ≡ height_of frame

-- ---- the summary line

-- `rows N in B out C`
abbrev pub summary_line : ℕ → ℕ → ℕ → List ℕ
summary_line rows bytes_in bytes_out =
    codes "rows " ++ (decimal rows ++ (codes " in " ++ (decimal bytes_in ++ (codes " out " ++ (decimal bytes_out ++ codes "\n")))))

-- the summary line of a frame of the made input of so many rows: how many rows it has, how many bytes the input has, and how
-- many the text of the frame
abbrev pub summary_of : ℕ → List ColumnValue → List ℕ
summary_of rows frame = summary_line (height_of frame) (length (made_input rows)) (length (text_of_frame (frame_options default_options) frame))

-- there are workers, and pieces have bytes; the made input has a reference read, and this is its summary line
pub record IsSummary (rows workers piece : ℕ) (line : List ℕ) : Type 0 where
  pub some_workers : 0 < workers
  pub some_bytes : 0 < piece
  pub frame : List ColumnValue
  pub is : IsMadeFrame rows workers piece frame
  pub text : line ≡ summary_of rows frame

-- ---- what came of the sink

-- the sink received exactly the summary line
pub record IsMade (rows workers piece : ℕ) (received received_now : Option (List ℕ)) : Type 0 where
  pub line : List ℕ
  pub is : IsSummary rows workers piece line
  pub written : Appends received received_now line

-- the sink received a prefix of the summary line
pub record IsMadePart (rows workers piece : ℕ) (received received_now : Option (List ℕ)) : Type 0 where
  pub line : List ℕ
  pub is : IsSummary rows workers piece line
  pub written : AppendsPrefix received received_now line

-- there are no workers, or pieces have no bytes
abbrev pub IsZero : ℕ → ℕ → Type 0
IsZero workers piece = (workers ≡ 0) ⊎ (piece ≡ 0)

-- why there is no summary: a wrong option, or want of memory
abbrev pub IsNoSummary : ℕ → ℕ → PolarsError → Type 0
IsNoSummary workers piece fault = ((fault ≡ error.InvalidOperation op_fault.Option) × IsZero workers piece) ⊎ (fault ≡ error.OutOfMemory)

-- Why a making job was not done: a fault of the sink, whose count rose, cut the line short; memory was wanting, before the
-- first byte or behind a prefix of the line; or an option is wrong, and the sink is as it was.
abbrev pub IsMakingFault : ℕ → ℕ → ℕ → SinkView → SinkView → PolarsError → Type 0
IsMakingFault rows workers piece before now error.IO = Rose before.faults now.faults × IsMadePart rows workers piece before.received now.received
IsMakingFault rows workers piece before now error.OutOfMemory = (now ≡ before) ⊎ IsMadePart rows workers piece before.received now.received
IsMakingFault rows workers piece before now fault = (fault ≡ error.InvalidOperation op_fault.Option) × IsZero workers piece × (now ≡ before)

-- the status that is due to a making job: 12 where there are no workers or pieces have no bytes, else 0
abbrev pub making_status : ℕ → ℕ → ℕ
making_status workers piece = if workers == 0 || piece == 0 then 12 else 0

-- ---- law

-- a made input of at most 1000000 rows has a reference read, which can be written
abbrev pub MadeInputIsRead : Type 0
MadeInputIsRead = (rows workers piece : ℕ) → rows ≤ 1000000 → 0 < workers → 0 < piece → (frame : List ColumnValue) × IsMadeFrame rows workers piece frame
