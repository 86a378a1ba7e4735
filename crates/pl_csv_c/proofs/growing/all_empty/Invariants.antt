use Rattle.std.proofs.Common.{map, take}
use Rattle.pl_cells.specs.InitBuffers.{entry_at}
use Rattle.pl_csv_c.specs.Growing.{AreGrown}
use Rattle.pl_frame.specs.FrameParts.{empty_columns}
use Rattle.pl_csv_c.proofs.growing.all_empty.Given as goal

abbrev pub invariant-loop-place : goal.invariant-loop-place
invariant-loop-place l = AreGrown (empty_columns (map (entry_at l.schema) (take l.place-index l.places))) l.all.items
