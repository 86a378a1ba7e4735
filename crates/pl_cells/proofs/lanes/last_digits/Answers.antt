use Rattle.pl_cells.proofs.LaneLaws.{last_lanes}
use Rattle.pl_cells.proofs.lanes.last_digits.Goals as goal

pub returns : goal.returns
returns c = last_lanes c.args.upto.now c.args.start c.requires.long c.requires.inside c.requires.few
