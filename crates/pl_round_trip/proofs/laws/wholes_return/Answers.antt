use Rattle.pl_round_trip.proofs.laws.wholes_return.Goals as goal
use Rattle.pl_round_trip.proofs.WholeLaws.{whole-returns}

pub returns : goal.returns
returns c = whole-returns
