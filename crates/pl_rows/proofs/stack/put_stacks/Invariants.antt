use Rattle.std.proofs.Common.{◌≡◌, map, take}
use Rattle.pl_cells.specs.InitBuffers.{entry_at}
use Rattle.pl_frame.specs.FrameParts.{empty_columns}
use Rattle.pl_rows.proofs.stack.put_stacks.Given as goal

abbrev pub invariant-loop-place : goal.invariant-loop-place
invariant-loop-place l = l.stacks.items ≡ empty_columns (map (entry_at l.fn.schema) (take l.place-index l.fn.places))
