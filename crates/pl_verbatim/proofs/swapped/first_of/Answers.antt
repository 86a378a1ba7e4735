-- No byte before the first is this one.
use Rattle.std.proofs.Common.{rules}
use Rattle.pl_verbatim.proofs.SwapLaws.{first-behind, none-behind}
use Rattle.pl_verbatim.proofs.swapped.first_of.Goals as goal

pub returns-in-Some-clause-none : goal.returns-in-Some-clause-none
returns-in-Some-clause-none c = first-behind c.args.byte c.args.text.now c.args.from c.memchr.result c.in-Some.count c.memchr.ensures (search rules)

pub returns-in-None-clause-none : goal.returns-in-None-clause-none
returns-in-None-clause-none c = none-behind c.args.byte c.args.text.now c.args.from c.memchr.result c.requires c.memchr.ensures (search rules)
