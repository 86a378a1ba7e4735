-- Frames that are written batch by batch: by which writer, what a call appends, and why it is refused (docs/quoting.md).
use Rattle.std.specs.Prelude.{◌≡◌, Bool, if◌then◌else◌, List, [], ◌++◌, ℕ}
use Rattle.pl_frame.specs.Causes.{Rose}
use Rattle.pl_frame.specs.Frame.{ColumnValue, height_of}
use Rattle.pl_frame.specs.FrameParts.{schema_of}
use Rattle.pl_frame.specs.Schema.{Entry, names_in}
use Rattle.pl_text.specs.FrameText.{WriteOptions, head_text, row_lines}
use Rattle.pl_frame.specs.declared.error.PolarsError.{PolarsError}
use Rattle.pl_frame.specs.declared.error.PolarsError.TheVariants as error
use Rattle.pl_write.specs.Options.{frame_options}
use Rattle.pl_write.specs.Writing.{CanWrite, IsEarlyFault, Writer}

-- a writer of batches: a writer of frames, the names and types of each batch in order, and whether byte order mark and header
-- were begun
pub record BatchWriter (S : Type 0) : Type 0 where
  pub writer : Writer S
  pub schema : List Entry
  pub begun : Bool

-- columns have these names and types, in order
abbrev pub HaveSchema : List Entry → List ColumnValue → Type 0
HaveSchema schema columns = schema_of columns ≡ schema

-- byte order mark and header, where they were not begun
abbrev pub head_to_come : {S : Type 0} → BatchWriter S → List ℕ
head_to_come w = if w.begun then [] else head_text (frame_options w.writer.options) (names_in w.schema)

-- the lines of all rows
abbrev pub all_lines : WriteOptions → List ColumnValue → List ℕ
all_lines o columns = row_lines o columns 0 (height_of columns)

-- what is written of a batch: byte order mark and header, where they were not begun, and the lines of its rows
abbrev pub batch_text : {S : Type 0} → BatchWriter S → List ColumnValue → List ℕ
batch_text w columns = head_to_come w ++ all_lines (frame_options w.writer.options) columns

-- there are threads to write, and the quote is ASCII
abbrev pub IsReady : {S : Type 0} → Writer S → Type 0
IsReady w = CanWrite w.n_threads w.options.serialize_options.quote_char

-- why a batch was not written: no threads, or else a quote that is not ASCII, and then the writer of batches is as it was; else
-- a fault of the sink, whose count rose, or want of memory
abbrev pub IsBatchFault : {S : Type 0} → (S → ℕ) → BatchWriter S → BatchWriter S → PolarsError → Type 0
IsBatchFault faults before now error.IO = IsReady before.writer × Rose (faults before.writer.sink) (faults now.writer.sink)
IsBatchFault faults before now error.OutOfMemory = IsReady before.writer
IsBatchFault faults before now fault = IsEarlyFault before.writer.n_threads before.writer.options.serialize_options.quote_char fault × (now ≡ before)
