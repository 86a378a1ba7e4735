use Rattle.std.proofs.Common.{◌^◌, ◌∙◌, ap, Some, arith}
use Rattle.pl_cells.proofs.IntegerLaws.{number_below-wider}
use Rattle.pl_cells.proofs.integers.number_of_wide.Goals as goal

pub returns-in-Some : goal.returns-in-Some
returns-in-Some c =
    ap Some c.from.ensures ∙ number_below-wider (2 ^ 64) (2 ^ 128) c.args.digits.now c.in-Some.number (omega arith) c.in-Some.ensures
