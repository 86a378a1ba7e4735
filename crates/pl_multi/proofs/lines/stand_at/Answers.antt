use Rattle.pl_multi.proofs.LineLaws.{stands}
use Rattle.pl_multi.proofs.lines.stand_at.Goals as goal

pub returns-clause-more : goal.returns-clause-more
returns-clause-more c = stands c.args.text.now c.args.piece.now c.args.at c.are_same.result c.are_same.ensures
