use Rattle.std.proofs.Common.{arith}
use Rattle.pl_cells.proofs.AsciiLaws.{lacks_from_lanes}
use Rattle.pl_cells.proofs.lacks.lacks_16.Goals as goal

pub returns : goal.returns
returns c = lacks_from_lanes c.args.byte c.args.text.now c.args.at 16 c.requires (omega arith)
