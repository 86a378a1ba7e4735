-- The text of a frame whose first rows were printed before (docs/workers.md).
use Rattle.std.specs.Prelude.{ℕ, List, ◌++◌}
use Rattle.std.specs.List.{concat}
use Rattle.pl_frame.specs.Frame.{ColumnValue}
use Rattle.pl_text.specs.FrameText.{WriteOptions, head_text}
use Rattle.pl_write.specs.Batches.{all_lines}

-- what stands before the rows under these names, lines that were printed, one text behind the other, and the lines of the rows
abbrev pub printed_text : WriteOptions → List (List ℕ) → List (List ℕ) → List ColumnValue → List ℕ
printed_text o names printed columns = head_text o names ++ (concat printed ++ all_lines o columns)
