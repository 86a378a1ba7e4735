use Rattle.pl_verbatim.proofs.TextLaws.{first_stop-none, first_stop-some}
use Rattle.pl_verbatim.proofs.texts.count_before_stop.Goals as goal

pub returns-then-stops-eq0 : goal.returns-then-stops-eq0
returns-then-stops-eq0 c = first_stop-none c.args.separator c.args.quote c.args.bytes.now c.requires c.if-stops-eq0.true

pub returns-else-stops-eq0 : goal.returns-else-stops-eq0
returns-else-stops-eq0 c = first_stop-some c.args.separator c.args.quote c.args.bytes.now c.requires c.if-stops-eq0.false
