-- Laws of readers of batches (docs/batches.md, "All batches").
use Rattle.std.specs.Prelude.{◌≡◌, ℕ, ◌<◌, true, List, [], ◌∷◌, map}
use Rattle.pl_frame.specs.Frame.{ColumnValue}
use Rattle.pl_frame.specs.FrameParts.{all_stacked, empty_columns}
use Rattle.pl_frame.specs.Schema.{Entry}
use Rattle.pl_cells.specs.InitBuffers.{entry_at}
use Rattle.pl_options.specs.declared.read_options.CsvReadOptions.{CsvReadOptions}
use Rattle.pl_read.specs.Batches.{Batches, StandsInData, is_over, AreBatches, opened, IsOpened}
use Rattle.pl_read.specs.Options.{settled_schema}
use Rattle.pl_read.specs.Projection.{projected}
use Rattle.pl_read.specs.Reading.{frame_of}
use Rattle.pl_read.specs.Rows.{with_index}

-- a call that gave frames: how many it asked for at most, which they were, and what the reader held behind it
pub record Call : Type 0 where
  pub count : ℕ
  pub frames : List (List ColumnValue)
  pub behind : Batches

-- calls of a reader, each with a positive count, up to one that gives no batch
abbrev pub AreCalls : Batches → List Call → Type 0
AreCalls b [] = (n : ℕ) × (0 < n) × (is_over b n ≡ true)
AreCalls b (call ∷ calls) = (0 < call.count) × AreBatches b call.behind call.count call.frames × StandsInData call.behind × AreCalls call.behind calls

-- the rows of a frame and then those of the frames of calls
abbrev pub all_joined : List ColumnValue → List Call → List ColumnValue
all_joined first [] = first
all_joined first (call ∷ calls) = all_joined (all_stacked first call.frames) calls

-- the columns that are read, behind the row index where one is asked, without rows
abbrev pub empty_frame : CsvReadOptions → List Entry → List ColumnValue
empty_frame o schema = with_index o.row_index 0 (empty_columns (map (entry_at schema) (projected o schema)))

-- The batches of all calls, joined onto the empty frame, are the frame of the input, whatever the counts: that which `finish` gives.
abbrev pub BatchesJoinToTheWholeRead : Type 0
BatchesJoinToTheWholeRead = (o : CsvReadOptions) (input : List ℕ) (calls : List Call) → IsOpened o input (opened o input) → AreCalls (opened o input) calls
    → all_joined (empty_frame o (settled_schema o input)) calls ≡ frame_of o (settled_schema o input) input
