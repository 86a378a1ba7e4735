use Rattle.pl_round_trip.proofs.HeadTextLaws.{data-returns}
use Rattle.pl_round_trip.proofs.laws.data_return.Goals as goal

pub returns : goal.returns
returns c = data-returns
