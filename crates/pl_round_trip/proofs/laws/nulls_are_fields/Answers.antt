use Rattle.pl_round_trip.proofs.CellTextLaws.{nulls-are-fields}
use Rattle.pl_round_trip.proofs.laws.nulls_are_fields.Goals as goal

pub returns : goal.returns
returns c = nulls-are-fields
