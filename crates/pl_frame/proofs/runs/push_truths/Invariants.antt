use Rattle.std.proofs.Common.{◌≡◌, ◌-◌, ◌≤◌, ◌++◌, take, drop}
use Rattle.pl_frame.specs.Columns.{truth_cells}
use Rattle.pl_frame.specs.Parts.{part_cells}
use Rattle.pl_frame.proofs.runs.push_truths.Given as goal

abbrev pub invariant-loop-row : goal.invariant-loop-row
invariant-loop-row l = record {
  behind : l.from ≤ l.row;
  cells : truth_cells l.truths ≡ truth_cells l.fn.truths ++ take (l.row - l.from) (drop l.from (part_cells l.part));
}
