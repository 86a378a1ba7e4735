use Rattle.std.proofs.Common.{◌≡◌, ◌==◌, take}
use Rattle.std.specs.Prelude.{count_by}
use Rattle.pl_infer.proofs.evidence.count_byte.Given as goal

abbrev pub invariant-loop-x : goal.invariant-loop-x
invariant-loop-x l = l.count ≡ count_by (λ x. x == l.byte) (take l.x-index l.text)
