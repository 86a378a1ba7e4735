use Rattle.std.proofs.Common.{◌≡◌, drop, find}
use Rattle.pl_cells.specs.InitBuffers.{entry_at}
use Rattle.pl_infer.specs.Schemas.{is_categorical}
use Rattle.pl_stream.proofs.checking.find_categories.Given as goal

abbrev pub invariant-loop-place : goal.invariant-loop-place
invariant-loop-place l = find (λ place. is_categorical (entry_at l.schema place).1) l.places ≡ find (λ place. is_categorical (entry_at l.schema place).1) (drop l.place-index l.places)
