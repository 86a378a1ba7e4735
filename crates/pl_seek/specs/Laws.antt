-- A law of slices (docs/index.md).
use Rattle.std.specs.Prelude.{◌≡◌, ℕ, ◌+◌, ◌<◌, List, length, None}
use Rattle.pl_frame.specs.Frame.{ColumnValue}
use Rattle.pl_frame.specs.FrameParts.{sliced}
use Rattle.pl_options.specs.declared.read_options.CsvReadOptions.{CsvReadOptions}
use Rattle.pl_read.specs.Options.{settled_schema}
use Rattle.pl_read.specs.Reading.{IsRead}
use Rattle.pl_read.specs.Refusals.{numbers_past}
use Rattle.pl_seek.specs.Building.{MayIndex}
use Rattle.pl_seek.specs.Parts.{fault_in_rows}
use Rattle.pl_seek.specs.Slices.{slice_rows, slice_frame}

-- where an input has an index, and its whole read succeeds: the frame of a slice is the part of the whole frame from a row on, of at most
-- so many rows; none of these has a fault, and where there are any, their numbers fit
pub record IsPartOfTheWholeRead (o : CsvReadOptions) (input : List ℕ) (frame : List ColumnValue) (start count : ℕ) : Type 0 where
  pub frame_is : slice_frame o start (slice_rows o input start count) ≡ sliced start count frame
  pub sound : fault_in_rows o start (slice_rows o input start count) ≡ None
  pub numbered : 0 < length (slice_rows o input start count) → numbers_past o.row_index (start + length (slice_rows o input start count)) ≡ None

abbrev pub SlicesArePartsOfTheWholeRead : Type 0
SlicesArePartsOfTheWholeRead = (o : CsvReadOptions) (input : List ℕ) (frame : List ColumnValue) (start count : ℕ) → MayIndex o input
    → IsRead o (settled_schema o input) input frame → IsPartOfTheWholeRead o input frame start count
