use Rattle.pl_round_trip.proofs.FrameRowLaws.{frame-rows-return}
use Rattle.pl_round_trip.proofs.laws.frame_rows_return.Goals as goal

pub returns : goal.returns
returns c = frame-rows-return
