use Rattle.std.proofs.Common.{◌∙◌, rules}
use Rattle.pl_cells.specs.Integers.{is_negative, without_sign}
use Rattle.pl_cells.specs.Decimals.{before_point, behind_point}
use Rattle.pl_cells.proofs.DecimalLaws.{decimal_of-refused}
use Rattle.pl_cells.proofs.decimals.parse_decimal.Goals as goal

pub returns-in_err-number-clause-value : goal.returns-in_err-number-clause-value
returns-in_err-number-clause-value c =
    let whole = before_point (without_sign c.args.text.now) in
    let fraction = behind_point (without_sign c.args.text.now) in
    c.from_residual.ensures ∙ decimal_of-refused c.args.precision c.args.scale (is_negative c.args.text.now) whole fraction c.requires (search rules)
