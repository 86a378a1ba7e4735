use Rattle.std.proofs.Common.{◌≡◌, ◌++◌, take}
use Rattle.pl_multi.specs.Scan.{value_columns}
use Rattle.pl_multi.proofs.values.push_values.Given as goal

abbrev pub invariant-loop-value : goal.invariant-loop-value
invariant-loop-value l = l.columns.items ≡ l.fn.columns.items ++ value_columns l.fn.rows (take l.value-index l.fn.part.values)
