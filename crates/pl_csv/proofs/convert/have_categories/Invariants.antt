use Rattle.std.proofs.Common.{◌≡◌, drop}
use Rattle.std.specs.List.{list_any}
use Rattle.pl_cells.specs.InitBuffers.{entry_at}
use Rattle.pl_infer.specs.Schemas.{is_categorical}
use Rattle.pl_csv.proofs.convert.have_categories.Given as goal

abbrev pub invariant-loop-place : goal.invariant-loop-place
invariant-loop-place l = list_any (λ place. is_categorical (entry_at l.schema place).1) l.places ≡ list_any (λ place. is_categorical (entry_at l.schema place).1) (drop l.place-index l.places)
