-- Batches that are written one behind the other, and the frame that they make when joined (docs/quoting.md).
use Rattle.std.specs.Prelude.{ℕ, List, ◌++◌, All}
use Rattle.std.specs.List.{flat_map}
use Rattle.pl_frame.specs.Frame.{ColumnValue}
use Rattle.pl_frame.specs.FrameParts.{empty_columns, all_stacked}
use Rattle.pl_frame.specs.Schema.{Entry}
use Rattle.pl_write.specs.Batches.{BatchWriter, HaveSchema, all_lines, head_to_come}
use Rattle.pl_write.specs.Options.{frame_options}

-- the frame of all rows of batches that have these names and types
abbrev pub joined_batches : List Entry → List (List ColumnValue) → List ColumnValue
joined_batches schema batches = all_stacked (empty_columns schema) batches

-- each batch has the names and types of the writer
abbrev pub AreBatchesOf : {S : Type 0} → BatchWriter S → List (List ColumnValue) → Type 0
AreBatchesOf w batches = All (HaveSchema w.schema) batches

-- what is written of batches: byte order mark and header, where they were not begun, and the lines of all their rows
abbrev pub batches_text : {S : Type 0} → BatchWriter S → List (List ColumnValue) → List ℕ
batches_text w batches = head_to_come w ++ flat_map (all_lines (frame_options w.writer.options)) batches
