use Rattle.std.proofs.Common.{◌≡◌, take}
use Rattle.pl_frame.specs.FrameParts.{sliced}
use Rattle.pl_frame.proofs.frame_rows.slice_columns.Given as goal

abbrev pub invariant-loop-column : goal.invariant-loop-column
invariant-loop-column l = l.parts.items ≡ sliced l.offset l.count (take l.column-index l.columns)
