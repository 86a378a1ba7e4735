use Rattle.pl_read.proofs.ComesBackLaws.{frames-return}
use Rattle.pl_read.proofs.laws.frames_return.Goals as goal

pub returns : goal.returns
returns c = frames-return
