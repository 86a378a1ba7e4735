use Rattle.std.proofs.lemmas.Slice.Eq.{slice_eq-Decides}
use Rattle.pl_frame.proofs.SameLaws.{columns_decide}
use Rattle.pl_frame.proofs.frame.DataFrame.equals.Goals as goal

pub returns : goal.returns
returns c = slice_eq-Decides columns_decide c.args.self.now c.args.other.now c.eq.result c.eq.ensures
