use Rattle.std.proofs.Common.{◌≡◌, ℕ, ◌<◌, false, get_or, None}
use Rattle.std.specs.Option.{option_map}
use Rattle.pl_frame.specs.declared.data_type.DataType.TheVariants as dtype
use Rattle.pl_frame.specs.Columns.{misfits}
use Rattle.pl_frame.specs.Frame.{Number}
use Rattle.pl_frame.proofs.column.read_all.Given as goal

abbrev pub invariant-loop-row : goal.invariant-loop-row
invariant-loop-row l = (k : ℕ) → k < l.row → misfits dtype.Int64 (option_map Number (get_or l.numbers k None)) ≡ false
