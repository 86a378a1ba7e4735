use Rattle.std.proofs.Common.{◌≡◌, take}
use Rattle.pl_frame.specs.FrameParts.{filtered}
use Rattle.pl_frame.proofs.frame_rows.filter_columns.Given as goal

abbrev pub invariant-loop-column : goal.invariant-loop-column
invariant-loop-column l = l.parts.items ≡ filtered l.keep (take l.column-index l.columns)
