use Rattle.pl_round_trip.proofs.laws.text_cells_return.Goals as goal
use Rattle.pl_round_trip.proofs.ValueLaws.{cell-returns}

pub returns : goal.returns
returns c = cell-returns
