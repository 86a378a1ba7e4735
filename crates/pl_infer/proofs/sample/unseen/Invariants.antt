use Rattle.std.proofs.Common.{◌≡◌}
use Rattle.pl_infer.specs.SampleSteps.{unseen}
use Rattle.pl_infer.proofs.sample.unseen.Given as goal

abbrev pub invariant-loop-column : goal.invariant-loop-column
invariant-loop-column l = l.columns.items ≡ unseen l._column
