use Rattle.std.proofs.Common.{arith, ap, ◌∙◌, ◌^◌}
use Rattle.pl_cells.proofs.DecimalLaws.{power_at}
use Rattle.pl_cells.proofs.decimals.power_of_ten.Goals as goal

pub returns : goal.returns
returns c = power_at 0 39 c.args.exponent _ (omega arith) ∙ ap (λ i. 10 ^ i) (omega arith)
