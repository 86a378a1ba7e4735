use Rattle.std.proofs.Common.{◌≡◌, take}
use Rattle.std.specs.Prelude.{None, find}
use Rattle.pl_frame.specs.Schema.{names_in, lacks}
use Rattle.pl_infer.proofs.schemas.check_names.Given as goal

abbrev pub invariant-loop-place : goal.invariant-loop-place
invariant-loop-place l = find (lacks l.schema) (take l.place (names_in l.other)) ≡ None
