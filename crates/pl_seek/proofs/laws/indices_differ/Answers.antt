use Rattle.pl_seek.proofs.Whole.{differ}
use Rattle.pl_seek.proofs.laws.indices_differ.Goals as goal

pub returns : goal.returns
returns c = differ
