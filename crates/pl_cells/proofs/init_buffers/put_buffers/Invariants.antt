use Rattle.std.proofs.Common.{◌≡◌, map, take}
use Rattle.pl_cells.specs.InitBuffers.{state_of, empty_buffers}
use Rattle.pl_cells.proofs.init_buffers.put_buffers.Given as goal

abbrev pub invariant-loop-place : goal.invariant-loop-place
invariant-loop-place l = map state_of l.buffers.items ≡ empty_buffers l.quote_char l.encoding l.schema (take l.place-index l.projection)
