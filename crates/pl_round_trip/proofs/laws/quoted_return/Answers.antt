use Rattle.pl_round_trip.proofs.laws.quoted_return.Goals as goal
use Rattle.pl_round_trip.proofs.UndoubleLaws.{quoted-returns}

pub returns : goal.returns
returns c = quoted-returns
