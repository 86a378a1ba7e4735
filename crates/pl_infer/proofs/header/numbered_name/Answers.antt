use Rattle.pl_infer.proofs.NameLaws.{numbered_name-behind}
use Rattle.pl_infer.proofs.header.numbered_name.Goals as goal

pub returns : goal.returns
returns c = rw (numbered_name-behind c.args.name.now c.args.before c.if-before-eq0.false) c.format.ensures.ok
