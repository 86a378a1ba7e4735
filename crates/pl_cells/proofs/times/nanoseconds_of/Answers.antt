use Rattle.std.proofs.Common.{arith}
use Rattle.pl_cells.proofs.TimeLaws.{fraction_value-is, fraction-small}
use Rattle.pl_cells.proofs.times.nanoseconds_of.Goals as goal

pub overflow_mul-result : goal.overflow_mul-result
overflow_mul-result c = omega (arith, fraction-small c.args.digits.now c.in_ok-number.number c.power_of_ten.result c.requires c.in_ok-number.ensures c.power_of_ten.ensures)

pub returns-clause-value : goal.returns-clause-value
returns-clause-value c = fraction_value-is c.args.digits.now c.in_ok-number.number c.power_of_ten.result c.requires c.in_ok-number.ensures c.power_of_ten.ensures

pub returns-clause-small : goal.returns-clause-small
returns-clause-small c = fraction-small c.args.digits.now c.in_ok-number.number c.power_of_ten.result c.requires c.in_ok-number.ensures c.power_of_ten.ensures
