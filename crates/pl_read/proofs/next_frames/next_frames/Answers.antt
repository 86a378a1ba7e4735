use Rattle.std.proofs.Common.{length, take, ap, arith, length-take}
use Rattle.pl_read.proofs.NextLaws.{CanReadData-behind, few-behind}
use Rattle.pl_read.proofs.next_frames.next_frames.Goals as goal

pub read_parts-requires-clause-can : goal.read_parts-requires-clause-can
read_parts-requires-clause-can g c κs within = λ text.
    CanReadData-behind c.args.plan.now c.plan_behind-plan.result c.args.options.now c.args.schema.now c.args.rest.now text c.args.rows c.plan_behind-plan.ensures c.requires.bytes c.requires.can

pub finish-requires-clause-can : goal.finish-requires-clause-can
finish-requires-clause-can g c = λ text.
    CanReadData-behind c.args.plan.now c.plan_behind-plan.result c.args.options.now c.args.schema.now c.args.rest.now text c.args.rows c.plan_behind-plan.ensures c.requires.bytes c.requires.can

pub finish-requires-clause-fits : goal.finish-requires-clause-fits
finish-requires-clause-fits g c =
    let rest = c.args.rest.now in
    let end = c.in-Ok.cut.end in
    let few = few-behind c.args.options.now c.args.rows (take end rest) in
    omega (arith, c.requires.fits, few, ap length c.in-Ok-read_parts.ensures.rows_are, length-take end rest)
