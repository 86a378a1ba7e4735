use Rattle.std.proofs.Common.{◌≡◌, map}
use Rattle.pl_infer.specs.SampleSteps.{type_seen}
use Rattle.pl_infer.proofs.sample.types_seen.Given as goal

abbrev pub invariant-loop-column : goal.invariant-loop-column
invariant-loop-column l = l.types.items ≡ map (λ column. type_seen column.types) l.yielded
