use Rattle.std.proofs.Common.{arith}
use Rattle.pl_frame.specs.declared.data_type.DataType.TheVariants as dtype
use Rattle.pl_frame.specs.Frame.{Number}
use Rattle.pl_frame.proofs.CellLaws.{all_hold}
use Rattle.pl_frame.proofs.column.read_all.Goals as goal

pub returns : goal.returns
returns c = all_hold Number dtype.Int64 c.args.numbers.now (λ k l. c.loop-row.invariant k (omega arith))
