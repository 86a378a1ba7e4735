use Rattle.std.proofs.Common.{arith}
use Rattle.pl_frame.specs.Types.{signed_range}
use Rattle.pl_frame.proofs.CellLaws.{all_outside}
use Rattle.pl_frame.proofs.constructors.collect_narrow.Goals as goal

pub push_narrow-requires : goal.push_narrow-requires
push_narrow-requires c = all_outside (signed_range 64) c.args.values.now c.requires c.loop-value.value-index (omega arith)
