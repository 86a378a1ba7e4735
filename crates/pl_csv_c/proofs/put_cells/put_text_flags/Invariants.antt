use Rattle.std.proofs.Common.{◌≡◌, ◌+◌, ◌-◌, ◌≤◌, ◌++◌, length, map, take, is_some, vec_len, vec_capacity}
use Rattle.pl_frame.specs.Columns.{text_cells}
use Rattle.pl_csv_c.proofs.put_cells.put_text_flags.Given as goal

abbrev pub invariant-loop-row : goal.invariant-loop-row
invariant-loop-row l = record {
  items : l.flags.items ≡ l.initial.flags.items ++ map is_some (take l.row (text_cells l.texts));
  room : vec_len l.flags + (length l.texts - l.row) ≤ vec_capacity l.flags;
}
