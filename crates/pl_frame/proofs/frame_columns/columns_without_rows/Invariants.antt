use Rattle.std.proofs.Common.{◌≡◌, take}
use Rattle.pl_frame.specs.FrameParts.{empty_columns}
use Rattle.pl_frame.proofs.frame_columns.columns_without_rows.Given as goal

abbrev pub invariant-loop-i : goal.invariant-loop-i
invariant-loop-i l = l.columns.items ≡ empty_columns (take l.i l.schema)
