use Rattle.std.proofs.Common.{◌≡◌, ◌-◌, ◌≤◌, ◌++◌, take, drop}
use Rattle.pl_frame.specs.Columns.{text_cells}
use Rattle.pl_frame.specs.Parts.{part_cells}
use Rattle.pl_frame.proofs.runs.push_text_rows.Given as goal

abbrev pub invariant-loop-row : goal.invariant-loop-row
invariant-loop-row l = record {
  behind : l.from ≤ l.row;
  cells : text_cells l.texts ≡ text_cells l.fn.texts ++ take (l.row - l.from) (drop l.from (part_cells l.part));
}
