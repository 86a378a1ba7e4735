use Rattle.pl_round_trip.proofs.laws.quotes_undouble.Goals as goal
use Rattle.pl_round_trip.proofs.UndoubleLaws.{undouble-doubled}

pub returns : goal.returns
returns c = undouble-doubled
