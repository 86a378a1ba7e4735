use Rattle.pl_write.proofs.SpecialLaws.{first_quote-none, first_quote-some}
use Rattle.pl_write.proofs.special.count_before_quote.Goals as goal

pub returns-then-quotes-eq0 : goal.returns-then-quotes-eq0
returns-then-quotes-eq0 c = first_quote-none c.args.quote c.args.bytes.now c.requires c.if-quotes-eq0.true

pub returns-else-quotes-eq0 : goal.returns-else-quotes-eq0
returns-else-quotes-eq0 c = first_quote-some c.args.quote c.args.bytes.now c.requires c.if-quotes-eq0.false
