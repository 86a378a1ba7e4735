use Rattle.pl_round_trip.proofs.laws.texts_return.Goals as goal
use Rattle.pl_round_trip.proofs.TextLaws.{text-returns}

pub returns : goal.returns
returns c = text-returns
