use Rattle.std.proofs.Common.{arith}
use Rattle.pl_frame.proofs.FramePartLaws.{within_at, places_more}
use Rattle.pl_frame.proofs.frame_columns.copy_columns_at.Goals as goal

pub loop-place-preserved : goal.loop-place-preserved
loop-place-preserved c =
    places_more c.args.which.now c.args.columns.now _ _ c.loop-place.place-index _ _ (omega arith) (within_at c.args.which.now c.args.columns.now c.loop-place.place-index c.requires (omega arith))
    c.index-columns-place.is c.in_ok-copy.ensures.equal c.loop-place.invariant c.in_ok-push_column.ensures.pushed
