use Rattle.std.proofs.Common.{arith}
use Rattle.pl_frame.proofs.FramePartLaws.{type_same, stacked_more}
use Rattle.pl_frame.proofs.frame_rows.join_columns.Goals as goal

pub joined-requires : goal.joined-requires
joined-requires c = type_same c.args.columns.now c.args.others.now c.loop-i.i _ _ c.requires (omega arith) c.index-columns-i.is c.index-others-i.is

pub loop-i-preserved : goal.loop-i-preserved
loop-i-preserved c =
    stacked_more c.args.columns.now c.args.others.now _ _ c.loop-i.i _ _ _ c.requires (omega arith) c.index-columns-i.is c.index-others-i.is c.in_ok-column.ensures.rows c.loop-i.invariant
    c.in_ok-push_column.ensures.pushed
