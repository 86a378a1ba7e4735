use Rattle.std.proofs.Common.{◌≤◌, length}
use Rattle.pl_intake.proofs.cuts.begins_row.Given as goal

abbrev pub invariant-loop : goal.invariant-loop
invariant-loop l = length l.rest ≤ length l.text
