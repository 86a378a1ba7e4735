use Rattle.pl_read.proofs.PrefixLaws.{limited-prefix}
use Rattle.pl_read.proofs.laws.limited_read_depends_on_prefix.Goals as goal

pub returns : goal.returns
returns c = limited-prefix
