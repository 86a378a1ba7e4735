use Rattle.pl_round_trip.proofs.TailLaws.{tail-returns}
use Rattle.pl_round_trip.proofs.laws.tails_return.Goals as goal

pub returns : goal.returns
returns c = tail-returns
