use Rattle.std.proofs.Common.{arith}
use Rattle.pl_cells.proofs.AsciiLaws.{ascii_from_lanes}
use Rattle.pl_cells.proofs.ascii.is_ascii_8.Goals as goal

pub returns : goal.returns
returns c = ascii_from_lanes c.args.text.now c.args.at 8 c.requires (omega arith)
