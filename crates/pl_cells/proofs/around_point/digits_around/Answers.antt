use Rattle.std.proofs.Common.{◌∙◌, arith}
use Rattle.pl_cells.proofs.AroundLaws.{zeros_in_front, digits_joined}
use Rattle.pl_cells.proofs.around_point.digits_around.Goals as goal

pub joined-requires-clause-zeros : goal.joined-requires-clause-zeros
joined-requires-clause-zeros c = zeros_in_front c.args.upto.now c.last_digits-back.result c.args.point (omega arith) (omega arith) c.last_digits-back.ensures

pub returns : goal.returns
returns c =
    c.joined.ensures
    ∙ digits_joined c.args.upto.now c.last_digits-front.result c.last_digits-back.result c.args.from c.args.point c.requires.long c.requires.inside c.requires.point c.requires.few
    c.last_digits-front.ensures c.last_digits-back.ensures
