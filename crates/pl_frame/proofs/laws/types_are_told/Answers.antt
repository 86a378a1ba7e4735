use Rattle.pl_frame.specs.EqualLaws.{types_decide}
use Rattle.pl_frame.proofs.laws.types_are_told.Goals as goal

pub returns : goal.returns
returns c = types_decide
