use Rattle.std.proofs.Common.{◌≡◌, take}
use Rattle.pl_frame.specs.FrameParts.{columns_at}
use Rattle.pl_frame.proofs.frame_columns.copy_columns_at.Given as goal

abbrev pub invariant-loop-place : goal.invariant-loop-place
invariant-loop-place l = l.copies.items ≡ columns_at (take l.place-index l.which) l.columns
