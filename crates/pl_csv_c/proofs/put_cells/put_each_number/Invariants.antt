use Rattle.std.proofs.Common.{◌≡◌, ◌++◌, map, take}
use Rattle.pl_csv_c.specs.Arrays.{number_in}
use Rattle.pl_csv_c.proofs.put_cells.put_each_number.Given as goal

abbrev pub invariant-loop-row : goal.invariant-loop-row
invariant-loop-row l = l.numbers.items ≡ l.initial.numbers.items ++ map number_in (take l.row l.column.values)
