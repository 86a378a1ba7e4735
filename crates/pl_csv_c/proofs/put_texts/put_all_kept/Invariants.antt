use Rattle.std.proofs.Common.{◌≡◌, ◌+◌, ◌-◌, ◌≤◌, ◌++◌, length, take, vec_len, vec_capacity}
use Rattle.std.specs.List.{flat_map}
use Rattle.pl_csv_c.specs.Arrays.{letters_in, ends_behind}
use Rattle.pl_frame.specs.Columns.{text_cells}
use Rattle.pl_csv_c.proofs.put_texts.put_all_kept.Given as goal

abbrev pub invariant-loop-row : goal.invariant-loop-row
invariant-loop-row l = record {
  bytes : l.bytes.items ≡ l.initial.bytes.items ++ flat_map letters_in (take l.row (text_cells l.texts));
  ends : l.ends.items ≡ l.initial.ends.items ++ ends_behind (length l.initial.bytes.items) (take l.row (text_cells l.texts));
  room : vec_len l.ends + (length l.texts - l.row) ≤ vec_capacity l.ends;
}
