use Rattle.std.proofs.Common.{◌≡◌, ◌++◌, map, take, is_some}
use Rattle.std.specs.List.{range_with_len}
use Rattle.pl_csv_c.specs.Arrays.{code_number}
use Rattle.pl_frame.specs.Columns.{code_at}
use Rattle.pl_csv_c.proofs.codes.put_codes.Given as goal

abbrev pub invariant-loop-row : goal.invariant-loop-row
invariant-loop-row l = record {
  flags : l.flags.items ≡ l.initial.flags.items ++ map is_some (take l.row l.column.values);
  numbers : l.numbers.items ≡ l.initial.numbers.items ++ map (λ row. code_number (code_at l.column row)) (range_with_len 0 l.row);
}
