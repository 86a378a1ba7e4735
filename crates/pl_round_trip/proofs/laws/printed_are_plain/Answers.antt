use Rattle.pl_round_trip.proofs.laws.printed_are_plain.Goals as goal
use Rattle.pl_round_trip.proofs.PlainLaws.{printed-plain}

pub returns : goal.returns
returns c = printed-plain
