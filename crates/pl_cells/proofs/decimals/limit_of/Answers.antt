use Rattle.std.proofs.Common.{◌≤◌, arith}
use Rattle.pl_cells.proofs.DecimalLaws.{precision-bound, power-some, power-small}
use Rattle.pl_cells.proofs.decimals.limit_of.Goals as goal

pub returns-clause-some : goal.returns-clause-some
returns-clause-some c = omega (arith, c.power_of_ten.ensures, power-some c.unwrap_or.result)

pub returns-clause-small : goal.returns-clause-small
returns-clause-small c =
    let few : c.unwrap_or.result ≤ 38 = omega (arith, c.unwrap_or.ensures, precision-bound c.args.precision c.args.scale c.requires) in
    omega (arith, c.power_of_ten.ensures, power-small c.unwrap_or.result few)
