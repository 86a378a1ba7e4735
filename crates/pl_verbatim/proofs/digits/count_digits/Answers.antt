use Rattle.pl_verbatim.proofs.DigitLaws.{first_other-none, first_other-some}
use Rattle.pl_verbatim.proofs.digits.count_digits.Goals as goal

pub returns-then-others-eq0 : goal.returns-then-others-eq0
returns-then-others-eq0 c = first_other-none c.args.bytes.now c.requires c.type_inv.bytes c.if-others-eq0.true

pub returns-else-others-eq0 : goal.returns-else-others-eq0
returns-else-others-eq0 c = first_other-some c.args.bytes.now c.requires c.type_inv.bytes c.if-others-eq0.false
