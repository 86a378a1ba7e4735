use Rattle.std.proofs.Common.{◌≡◌}
use Rattle.pl_infer.proofs.SchemaLaws.{retyped_to}
use Rattle.pl_infer.proofs.schemas.overwritten.Given as goal

abbrev pub invariant-loop-place : goal.invariant-loop-place
invariant-loop-place l = l.changed ≡ retyped_to l.other l.place l.schema
