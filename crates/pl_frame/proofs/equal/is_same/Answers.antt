use Rattle.std.proofs.Common.{◌∙◌}
use Rattle.pl_frame.proofs.AlikeLaws.{values_same}
use Rattle.pl_frame.proofs.equal.is_same.Goals as goal

pub returns : goal.returns
returns c = c.eq.ensures ∙ values_same c.args.a c.args.b
