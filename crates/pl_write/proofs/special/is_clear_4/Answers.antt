use Rattle.std.proofs.Common.{arith}
use Rattle.pl_write.proofs.SpecialLaws.{clear_from_lanes}
use Rattle.pl_write.proofs.special.is_clear_4.Goals as goal

pub returns : goal.returns
returns c = clear_from_lanes c.args.separator c.args.quote c.args.text.now c.args.at 4 c.requires (omega arith)
