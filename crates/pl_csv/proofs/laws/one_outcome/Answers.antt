use Rattle.pl_csv.proofs.OutcomeLaws.{one_outcome}
use Rattle.pl_csv.proofs.laws.one_outcome.Goals as goal

pub returns : goal.returns
returns c = λ read schema input write. one_outcome read schema input write
