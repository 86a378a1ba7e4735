use Rattle.pl_round_trip.proofs.CellTextLaws.{values-are-fields}
use Rattle.pl_round_trip.proofs.laws.values_are_fields.Goals as goal

pub returns : goal.returns
returns c = values-are-fields
