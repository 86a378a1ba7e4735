use Rattle.std.proofs.Common.{◌≡◌}
use Rattle.pl_intake.proofs.pending.Pending.keep.Given as goal

abbrev pub invariant-loop-read : goal.invariant-loop-read
invariant-loop-read g l = l.self-inside.texts.items ≡ l.initial.self-inside.texts.items
