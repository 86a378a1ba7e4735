use Rattle.std.proofs.Common.{◌^◌, ◌∙◌}
use Rattle.pl_cells.proofs.DecimalLaws.{read_on-first, read_on-both}
use Rattle.pl_cells.proofs.decimals.read_both_wide.Goals as goal

pub returns-in_err-number : goal.returns-in_err-number
returns-in_err-number c = c.from_residual.ensures ∙ read_on-first (2 ^ 128) 0 c.args.whole.now c.args.fraction.now c.in_err-number.ensures

pub returns : goal.returns
returns c = c.read_on-2.ensures ∙ read_on-both (2 ^ 128) 0 c.in_ok-number.number c.args.whole.now c.args.fraction.now c.in_ok-number.ensures
