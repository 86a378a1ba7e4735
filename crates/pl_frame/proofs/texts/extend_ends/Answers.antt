use Rattle.std.proofs.Common.{arith}
use Rattle.pl_frame.proofs.JoinLaws.{moved-within}
use Rattle.pl_frame.proofs.texts.extend_ends.Goals as goal

pub overflow_add-base : goal.overflow_add-base
overflow_add-base c =
    let within = moved-within c.args.base c.args.base c.args.more.now c.args.last c.loop-end.end-index c.requires.rising c.loop-end-test.true in
    omega (arith, within, c.ranges.last.fits)
