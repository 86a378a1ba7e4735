use Rattle.std.proofs.Common.{◌≡◌, ◌+◌, ◌-◌, ◌≤◌, ◌++◌, true, replicate, vec_len, vec_capacity}
use Rattle.pl_csv_c.proofs.put_cells.put_set_flags.Given as goal

abbrev pub invariant-loop-row : goal.invariant-loop-row
invariant-loop-row l = record {
  items : l.flags.items ≡ l.initial.flags.items ++ replicate l.row true;
  room : vec_len l.flags + (l.count - l.row) ≤ vec_capacity l.flags;
}
