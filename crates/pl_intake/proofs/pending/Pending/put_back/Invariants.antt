use Rattle.std.proofs.Common.{◌≡◌, ◌++◌, length}
use Rattle.std.specs.List.{concat}
use Rattle.pl_intake.proofs.pending.Pending.put_back.Given as goal

abbrev pub invariant-loop-last : goal.invariant-loop-last
invariant-loop-last g l = record {
  rest : concat l.texts.items ++ l.intake.rest.items ≡ concat l.initial.texts.items ++ l.initial.intake.rest.items;
  size : l.intake.size ≡ l.initial.intake.size;
  ended : l.intake.is_ended ≡ l.initial.intake.is_ended;
}

abbrev pub decreases-loop-last : goal.decreases-loop-last
decreases-loop-last g l = length l.texts.items
