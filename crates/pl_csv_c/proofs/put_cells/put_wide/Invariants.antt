use Rattle.std.proofs.Common.{◌≡◌, ◌+◌, ◌*◌, ◌-◌, ◌≤◌, ◌++◌, length, take, vec_len, vec_capacity}
use Rattle.std.specs.List.{flat_map}
use Rattle.pl_csv_c.specs.Arrays.{words_in}
use Rattle.pl_frame.specs.Columns.{number_cells}
use Rattle.pl_csv_c.proofs.put_cells.put_wide.Given as goal

abbrev pub invariant-loop-row : goal.invariant-loop-row
invariant-loop-row l = record {
  items : l.words.items ≡ l.initial.words.items ++ flat_map words_in (take l.row (number_cells l.kept));
  room : vec_len l.words + 2 * (length l.kept - l.row) ≤ vec_capacity l.words;
}
