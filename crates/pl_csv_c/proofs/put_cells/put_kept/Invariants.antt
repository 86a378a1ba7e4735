use Rattle.std.proofs.Common.{◌≡◌, ◌+◌, ◌-◌, ◌≤◌, ◌++◌, length, map, take, vec_len, vec_capacity}
use Rattle.pl_csv_c.specs.Arrays.{number_in}
use Rattle.pl_frame.specs.Columns.{number_cells}
use Rattle.pl_csv_c.proofs.put_cells.put_kept.Given as goal

abbrev pub invariant-loop-row : goal.invariant-loop-row
invariant-loop-row l = record {
  items : l.numbers.items ≡ l.initial.numbers.items ++ map number_in (take l.row (number_cells l.kept));
  room : vec_len l.numbers + (length l.kept - l.row) ≤ vec_capacity l.numbers;
}
