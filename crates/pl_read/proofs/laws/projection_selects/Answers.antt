use Rattle.pl_read.proofs.SelectionLaws.{projection-selects}
use Rattle.pl_read.proofs.laws.projection_selects.Goals as goal

pub returns : goal.returns
returns c = projection-selects
