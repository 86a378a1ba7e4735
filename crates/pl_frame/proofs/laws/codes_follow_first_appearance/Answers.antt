use Rattle.pl_frame.proofs.AppearanceLaws.{codes_by_appearance}
use Rattle.pl_frame.proofs.laws.codes_follow_first_appearance.Goals as goal

pub returns : goal.returns
returns c = codes_by_appearance
