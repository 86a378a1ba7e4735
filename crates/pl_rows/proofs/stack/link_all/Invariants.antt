use Rattle.std.proofs.Common.{◌≡◌}
use Rattle.pl_rows.proofs.stack.link_all.Given as goal

abbrev pub invariant-loop-stack : goal.invariant-loop-stack
invariant-loop-stack l = l.columns.items ≡ l.yielded
