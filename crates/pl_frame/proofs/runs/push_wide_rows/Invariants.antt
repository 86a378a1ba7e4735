use Rattle.std.proofs.Common.{◌≡◌, ◌-◌, ◌≤◌, ◌++◌, take, drop}
use Rattle.pl_frame.specs.Columns.{number_cells}
use Rattle.pl_frame.specs.Parts.{part_cells}
use Rattle.pl_frame.proofs.runs.push_wide_rows.Given as goal

abbrev pub invariant-loop-row : goal.invariant-loop-row
invariant-loop-row l = record {
  behind : l.from ≤ l.row;
  cells : number_cells l.numbers ≡ number_cells l.fn.numbers ++ take (l.row - l.from) (drop l.from (part_cells l.part));
}
