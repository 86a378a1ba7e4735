use Rattle.pl_round_trip.proofs.FitCellLaws.{cell-returns}
use Rattle.pl_round_trip.proofs.laws.cells_return.Goals as goal

pub returns : goal.returns
returns c = cell-returns
