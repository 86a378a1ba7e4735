use Rattle.pl_read.proofs.SliceLaws.{joined_parts-slice}
use Rattle.pl_read.proofs.laws.parts_are_the_slice.Goals as goal

pub returns : goal.returns
returns g c = joined_parts-slice
