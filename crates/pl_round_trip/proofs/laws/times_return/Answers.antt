use Rattle.pl_round_trip.proofs.laws.times_return.Goals as goal
use Rattle.pl_round_trip.proofs.ClockLaws.{time_of_day-returns}

pub returns : goal.returns
returns c = time_of_day-returns
