use Rattle.pl_round_trip.proofs.RowTextLaws.{rows-return}
use Rattle.pl_round_trip.proofs.laws.rows_return.Goals as goal

pub returns : goal.returns
returns c = rows-return
