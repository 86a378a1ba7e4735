use Rattle.std.proofs.Common.{◌≡◌, None, take}
use Rattle.pl_cells.specs.InitBuffers.{first_unreadable}
use Rattle.pl_cells.proofs.init_buffers.first_unreadable.Given as goal

abbrev pub invariant-loop-place : goal.invariant-loop-place
invariant-loop-place l = first_unreadable l.schema (take l.place-index l.projection) ≡ None
