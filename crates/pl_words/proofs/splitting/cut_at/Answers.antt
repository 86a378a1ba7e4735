use Rattle.pl_words.proofs.SplitLaws.{cut_is, parts_are}
use Rattle.pl_words.proofs.splitting.cut_at.Goals as goal

pub returns-clause-cut : goal.returns-clause-cut
returns-clause-cut c = cut_is c.args.mark c.args.text.now c.split_once.result c.requires c.split_once.ensures.cases

pub returns-clause-parts : goal.returns-clause-parts
returns-clause-parts c = parts_are c.args.mark c.args.text.now c.split_once.result c.requires c.split_once.ensures.cases
