use Rattle.std.proofs.Common.{◌≡◌, ◌++◌, map, take}
use Rattle.pl_multi.proofs.checking.push_partition_names.Given as goal

abbrev pub invariant-loop-value : goal.invariant-loop-value
invariant-loop-value l = l.names.items ≡ l.fn.names.items ++ map (λ value. value.0) (take l.value-index l.value-items)
