use Rattle.std.proofs.Common.{◌++◌, ◌^◌, ◌∙◌, ap, Some, arith}
use Rattle.pl_cells.proofs.DecimalLaws.{read_on-wider}
use Rattle.pl_cells.proofs.decimals.read_both.Goals as goal

pub returns-in-Some : goal.returns-in-Some
returns-in-Some c =
    ap Some c.from.ensures ∙ read_on-wider (2 ^ 64) (2 ^ 128) 0 (c.args.whole.now ++ c.args.fraction.now) c.in-Some.number (omega arith) c.in-Some.ensures
