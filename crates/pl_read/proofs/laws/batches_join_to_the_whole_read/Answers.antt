use Rattle.pl_read.proofs.BatchJoinLaws.{batches-whole}
use Rattle.pl_read.proofs.laws.batches_join_to_the_whole_read.Goals as goal

pub returns : goal.returns
returns c = batches-whole
