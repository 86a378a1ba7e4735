use Rattle.std.proofs.Common.{arith}
use Rattle.std.proofs.lemmas.Int.{fits_signed_from_abs}
use Rattle.pl_frame.proofs.RangeLaws.{power_bound, power_positive}
use Rattle.pl_frame.proofs.range.power_of_ten.Goals as goal

pub pow-requires : goal.pow-requires
pow-requires c = fits_signed_from_abs _ _ (omega (arith, power_bound c.args.exponent c.requires))

pub returns-clause-positive : goal.returns-clause-positive
returns-clause-positive c = grind (arith, c.pow.ensures, power_positive c.args.exponent)

pub returns-clause-bound : goal.returns-clause-bound
returns-clause-bound c = grind (arith, c.pow.ensures, power_bound c.args.exponent c.requires)
