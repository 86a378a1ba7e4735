use Rattle.pl_write.proofs.SpecialLaws.{first_special-none, first_special-some}
use Rattle.pl_write.proofs.special.count_before_special.Goals as goal

pub returns-then-special-eq0 : goal.returns-then-special-eq0
returns-then-special-eq0 c = first_special-none c.args.separator c.args.quote c.args.bytes.now c.requires c.if-special-eq0.true

pub returns-else-special-eq0 : goal.returns-else-special-eq0
returns-else-special-eq0 c = first_special-some c.args.separator c.args.quote c.args.bytes.now c.requires c.if-special-eq0.false
