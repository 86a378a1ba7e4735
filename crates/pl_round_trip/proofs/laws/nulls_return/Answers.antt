use Rattle.pl_round_trip.proofs.NullFieldLaws.{null-returns}
use Rattle.pl_round_trip.proofs.laws.nulls_return.Goals as goal

pub returns : goal.returns
returns c = null-returns
