use Rattle.std.proofs.Common.{◌≡◌, ◌++◌, map, take}
use Rattle.pl_cells.specs.InitBuffers.{entry_at}
use Rattle.pl_multi.proofs.checking.push_schema_names.Given as goal

abbrev pub invariant-loop-place : goal.invariant-loop-place
invariant-loop-place l = l.names.items ≡ l.fn.names.items ++ map (λ entry. entry.0) (map (entry_at l.fn.schema) (take l.place-index l.fn.places))
