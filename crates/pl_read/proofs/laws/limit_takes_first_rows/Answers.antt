use Rattle.pl_read.proofs.LimitLaws.{limit-first_rows}
use Rattle.pl_read.proofs.laws.limit_takes_first_rows.Goals as goal

pub returns : goal.returns
returns c = limit-first_rows
