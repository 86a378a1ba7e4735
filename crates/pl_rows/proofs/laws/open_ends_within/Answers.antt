use Rattle.pl_rows.proofs.OpenLaws.{open_is_unclosed}
use Rattle.pl_rows.proofs.laws.open_ends_within.Goals as goal

pub returns : goal.returns
returns c = open_is_unclosed
