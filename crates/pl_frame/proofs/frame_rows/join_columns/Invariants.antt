use Rattle.std.proofs.Common.{◌≡◌, take}
use Rattle.pl_frame.specs.FrameParts.{stacked}
use Rattle.pl_frame.proofs.frame_rows.join_columns.Given as goal

abbrev pub invariant-loop-i : goal.invariant-loop-i
invariant-loop-i l = l.joined.items ≡ stacked (take l.i l.columns) (take l.i l.others)
