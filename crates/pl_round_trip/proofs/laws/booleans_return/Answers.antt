use Rattle.pl_round_trip.proofs.laws.booleans_return.Goals as goal
use Rattle.pl_round_trip.proofs.TextLaws.{boolean-returns}

pub returns : goal.returns
returns c = boolean-returns
