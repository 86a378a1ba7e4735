use Rattle.pl_round_trip.proofs.CutLaws.{line-returns}
use Rattle.pl_round_trip.proofs.laws.lines_return.Goals as goal

pub returns : goal.returns
returns c = line-returns
