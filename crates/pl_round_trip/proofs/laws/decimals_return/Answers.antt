use Rattle.pl_round_trip.proofs.laws.decimals_return.Goals as goal
use Rattle.pl_round_trip.proofs.PointLaws.{scaled-returns}

pub returns : goal.returns
returns c = scaled-returns
