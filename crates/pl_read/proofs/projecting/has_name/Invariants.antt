use Rattle.std.proofs.Common.{◌≡◌, take, false}
use Rattle.std.specs.List.{list_any}
use Rattle.std.specs.Str.{bytes_eq}
use Rattle.pl_cells.specs.InitBuffers.{entry_at}
use Rattle.pl_read.proofs.projecting.has_name.Given as goal

abbrev pub invariant-loop-place : goal.invariant-loop-place
invariant-loop-place l = list_any (λ place. bytes_eq l.fn.name (entry_at l.schema place).0) (take l.place-index l.places) ≡ false
