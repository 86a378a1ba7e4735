use Rattle.pl_cells.proofs.LaneLaws.{digits_from_lanes}
use Rattle.pl_cells.proofs.lanes.are_digits.Goals as goal

pub returns : goal.returns
returns c = digits_from_lanes c.args.lanes c.fits-lanes.0
