use Rattle.pl_round_trip.proofs.laws.datetimes_return.Goals as goal
use Rattle.pl_round_trip.proofs.MomentLaws.{moment-returns}

pub returns : goal.returns
returns c = moment-returns
