use Rattle.std.proofs.Common.{◌≡◌, ◌++◌, map}
use Rattle.pl_frame.specs.FrameParts.{empty_columns}
use Rattle.pl_frame.specs.declared.data_type.DataType.TheVariants as dtype
use Rattle.pl_multi.proofs.scan.empty_rows.Given as goal

abbrev pub invariant-loop-name : goal.invariant-loop-name
invariant-loop-name l = l.stacks.items ≡ l.initial.stacks.items ++ empty_columns (map (λ name. (name, dtype.String)) l.yielded)
