use Rattle.std.proofs.Common.{◌≡◌, length}
use Rattle.pl_intake.proofs.handed.make_shown.Given as goal

abbrev pub invariant-loop : goal.invariant-loop
invariant-loop l = length l.cells.items ≡ l.counter
