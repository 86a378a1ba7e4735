use Rattle.pl_round_trip.proofs.laws.values_return.Goals as goal
use Rattle.pl_round_trip.proofs.ValueLaws.{value-returns}

pub returns : goal.returns
returns c = value-returns
