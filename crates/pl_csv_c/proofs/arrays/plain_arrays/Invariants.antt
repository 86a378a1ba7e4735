use Rattle.std.proofs.Common.{◌≡◌, ◌-◌, ◌≤◌, [], take}
use Rattle.pl_csv_c.specs.Arrays.{HaveCells}
use Rattle.pl_csv_c.proofs.arrays.plain_arrays.Given as goal

abbrev pub invariant-loop-from : goal.invariant-loop-from
invariant-loop-from l = record {
  within : l.from ≤ l.rows;
  cells : HaveCells l.kind (take l.from l.column.values) l.arrays;
  none : l.arrays.categories.items ≡ [];
}

abbrev pub decreases-loop-from : goal.decreases-loop-from
decreases-loop-from l = l.rows - l.from
