-- Slices of an input that an index is bound to (docs/index.md).
use Rattle.std.specs.Prelude.{ℕ, ◌+◌, ◌/◌, ◌||◌, ◌==◌, nat_le, nat_lt, if◌then◌else◌, List, [], ◌∷◌, length, get_or, Option, None, unwrap_or}
use Rattle.std.specs.Int.{div_ceil}
use Rattle.pl_frame.specs.Frame.{ColumnValue}
use Rattle.pl_frame.specs.declared.error.PolarsError.{PolarsError}
use Rattle.pl_table.specs.Rows.{Row}
use Rattle.pl_options.specs.declared.read_options.CsvReadOptions.{CsvReadOptions}
use Rattle.pl_options.specs.FirstCause.{first_some}
use Rattle.pl_read.specs.Batches.{frame_behind}
use Rattle.pl_read.specs.Options.{data_of}
use Rattle.pl_read.specs.Refusals.{index_past}
use Rattle.pl_read.specs.SettleGiven.{given_schema}
use Rattle.pl_seek.specs.Index.{Index}
use Rattle.pl_seek.specs.Parts.{rows_from, columns_of_rows, fault_in_rows}

-- the bytes that a slice of an input of so many bytes is read from: from where the group of its first record begins up to where the first
-- group behind its end does, or the end of the input; nothing, where no record is in it
abbrev pub range_in : Index → (size start count : ℕ) → ℕ × ℕ
range_in i size start count =
    if nat_le i.records start || count == 0 then (size, size)
    else (get_or i.places (start / i.every) size, get_or i.places (div_ceil (start + count) i.every) size)

-- the rows of an input from one on, at most so many
abbrev pub slice_rows : CsvReadOptions → List ℕ → (start count : ℕ) → List Row
slice_rows o input start count = rows_from o start count (unwrap_or (data_of o input) [])

-- the first cause against rows, where the first one has this number among all: the least of them that has a fault; or else the last number
-- of their row index, or a code of a category, which does not fit
abbrev pub slice_cause : CsvReadOptions → ℕ → List Row → Option PolarsError
slice_cause o start given = first_some (
    fault_in_rows o start given
    ∷ (if nat_lt 0 (length given) then index_past o.row_index (start + length given) (columns_of_rows o given) else None)
    ∷ [])

-- the frame of rows, numbered from this number on
abbrev pub slice_frame : CsvReadOptions → ℕ → List Row → List ColumnValue
slice_frame o start given = frame_behind o (given_schema o) start given
