use Rattle.std.proofs.Common.{refl}
use Rattle.pl_frame.proofs.CellLaws.{truths_hold}
use Rattle.pl_frame.proofs.column.Column.from_booleans.Goals as goal

pub invariant_of-result : goal.invariant_of-result
invariant_of-result c = record { coded = refl; enumerated = refl; places = tt; held = truths_hold c.args.truths }
