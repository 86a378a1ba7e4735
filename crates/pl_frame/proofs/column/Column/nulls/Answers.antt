use Rattle.std.proofs.Common.{refl}
use Rattle.pl_frame.specs.declared.data_type.DataType.TheVariants as dtype
use Rattle.pl_frame.proofs.CellLaws.{nulls_hold}
use Rattle.pl_frame.proofs.column.Column.nulls.Goals as goal

pub invariant_of-result : goal.invariant_of-result
invariant_of-result c = record { coded = refl; enumerated = refl; places = tt; held = nulls_hold dtype.Null c.args.len }
