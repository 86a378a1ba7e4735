use Rattle.pl_seek.proofs.WholeReadLaws.{slices-of-whole}
use Rattle.pl_seek.proofs.laws.slices_are_parts_of_the_whole_read.Goals as goal

pub returns : goal.returns
returns c = slices-of-whole
