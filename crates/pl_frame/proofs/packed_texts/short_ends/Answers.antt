use Rattle.std.proofs.Common.{arith}
use Rattle.pl_frame.proofs.PackedLaws.{end_within}
use Rattle.pl_frame.proofs.packed_texts.short_ends.Goals as goal

pub overflow_cast-end : goal.overflow_cast-end
overflow_cast-end c =
    let within = end_within c.args.ends.now c.args.last c.loop-end.end-index c.requires.rising c.loop-end-test.true in
    omega (arith, within, c.requires.fits)
