use Rattle.std.proofs.Common.{◌≡◌, ◌++◌}
use Rattle.pl_csv.specs.MadeInput.{made_lines}
use Rattle.pl_csv.proofs.make_input.push_rows.Given as goal

abbrev pub invariant-loop-row : goal.invariant-loop-row
invariant-loop-row l = l.input.items ≡ l.initial.input.items ++ made_lines l.row
