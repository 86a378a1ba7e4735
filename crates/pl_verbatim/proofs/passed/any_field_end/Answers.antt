use Rattle.pl_verbatim.proofs.PassedLaws.{bare-field}
use Rattle.pl_verbatim.proofs.passed.any_field_end.Goals as goal

pub returns-then-text-at-clause-field : goal.returns-then-text-at-clause-field
returns-then-text-at-clause-field c =
    bare-field c.args.separator c.args.quote c.args.text.now c.args.at c.plain_end.result c.requires.inside c.if-text-at.true c.plain_end.ensures.after c.plain_end.ensures.plain
