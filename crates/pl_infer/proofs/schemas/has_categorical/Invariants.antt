use Rattle.std.proofs.Common.{◌≡◌, ℕ, ◌<◌, false}
use Rattle.pl_cells.specs.InitBuffers.{entry_at}
use Rattle.pl_infer.specs.Schemas.{is_categorical}
use Rattle.pl_infer.proofs.schemas.has_categorical.Given as goal

abbrev pub invariant-loop-place : goal.invariant-loop-place
invariant-loop-place l = (k : ℕ) → k < l.place → is_categorical (entry_at l.schema k).1 ≡ false
