use Rattle.pl_csv.proofs.DueLaws.{one_due}
use Rattle.pl_csv.proofs.laws.one_status_is_due.Goals as goal

pub returns : goal.returns
returns c = λ words input. one_due words input
