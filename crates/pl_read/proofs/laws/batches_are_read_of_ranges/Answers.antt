use Rattle.pl_read.proofs.BatchTextLaws.{batches-of_ranges}
use Rattle.pl_read.proofs.laws.batches_are_read_of_ranges.Goals as goal

pub returns : goal.returns
returns c = batches-of_ranges
