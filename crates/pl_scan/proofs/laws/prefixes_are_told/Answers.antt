use Rattle.pl_scan.proofs.CommentEqualLaws.{prefixes_told}
use Rattle.pl_scan.proofs.laws.prefixes_are_told.Goals as goal

pub returns : goal.returns
returns c = prefixes_told
