use Rattle.pl_stream.proofs.SettledLaws.{settled_rows_stay}
use Rattle.pl_stream.proofs.StandLaws.{settled-are, head-moves, head-none}
use Rattle.pl_stream.proofs.BoundLaws.{few-kept, few-line}
use Rattle.pl_stream.proofs.StepLaws.{accepted-given, settled-more, gained-more, at-piece, at-head}
use Rattle.pl_stream.proofs.laws.settled_rows_stay.Goals as goal

pub returns : goal.returns
returns c = settled_rows_stay
