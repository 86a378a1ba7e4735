use Rattle.pl_round_trip.proofs.FitRowLaws.{fitting-rows}
use Rattle.pl_round_trip.proofs.laws.fitting_rows_return.Goals as goal

pub returns : goal.returns
returns c = fitting-rows
