use Rattle.pl_verbatim.proofs.TextLaws.{special_front-none}
use Rattle.pl_verbatim.proofs.nulls.null_end.Goals as goal

pub returns-in-Some-true-clause-bare : goal.returns-in-Some-true-clause-bare
returns-in-Some-true-clause-bare c =
    special_front-none c.args.separator c.args.quote c.args.text.now c.args.at c.count_before_special.result c.count_before_special.ensures.value
