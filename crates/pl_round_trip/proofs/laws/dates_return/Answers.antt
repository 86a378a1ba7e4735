use Rattle.pl_round_trip.proofs.laws.dates_return.Goals as goal
use Rattle.pl_round_trip.proofs.DayLaws.{day-returns}

pub returns : goal.returns
returns c = day-returns
