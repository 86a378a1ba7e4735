use Rattle.std.proofs.Common.{subst, arith}
use Rattle.std.specs.Prelude.{All}
use Rattle.std.proofs.lemmas.List.{take_all}
use Rattle.std.proofs.lemmas.List.Elements.{All-more}
use Rattle.pl_frame.specs.Frame.{IsFrame}
use Rattle.pl_write.proofs.laws.are_frames.Goals as goal

pub loop-batch-preserved : goal.loop-batch-preserved
loop-batch-preserved c =
    All-more IsFrame c.args.batches.now c.loop-batch.batch-index c.batch-item.result c.loop-batch-test.true c.loop-batch.invariant
    (subst IsFrame c.batch-item.is c.columns-columns.ensures.frame)

pub returns : goal.returns
returns c = subst (All IsFrame) (take_all c.loop-batch.batch-index c.args.batches.now (omega (arith, c.loop-batch-test.false))) c.loop-batch.invariant
