use Rattle.std.proofs.Common.{sym}
use Rattle.pl_write.proofs.PaddedLaws.{padded-three}
use Rattle.pl_write.proofs.digits.three_digits.Goals as goal

pub returns : goal.returns
returns c = rw (c.digit.ensures, c.digit-2.ensures, c.digit-3.ensures) (sym (padded-three c.args.n c.requires))
