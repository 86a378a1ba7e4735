use Rattle.pl_round_trip.proofs.FieldLaws.{field-returns}
use Rattle.pl_round_trip.proofs.laws.fields_return.Goals as goal

pub returns : goal.returns
returns c = field-returns
