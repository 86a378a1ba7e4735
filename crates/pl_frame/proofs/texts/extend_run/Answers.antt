use Rattle.std.proofs.Common.{◌+◌, ◌-◌, arith}
use Rattle.pl_frame.proofs.TextRunLaws.{rise-between}
use Rattle.pl_frame.proofs.texts.extend_run.Goals as goal

pub overflow_sub-end : goal.overflow_sub-end
overflow_sub-end c =
    let inside = rise-between c.args.start c.args.more.now (c.args.start + (c.args.last - c.args.base)) c.loop-end.end-index c.requires.rising c.loop-end-test.true in
    inside.0

pub overflow_add-base : goal.overflow_add-base
overflow_add-base c =
    let inside = rise-between c.args.start c.args.more.now (c.args.start + (c.args.last - c.args.base)) c.loop-end.end-index c.requires.rising c.loop-end-test.true in
    let first = inside.0 in let second = inside.1 in
    omega (arith, first, second, c.requires.ordered, c.ranges.last.fits)
