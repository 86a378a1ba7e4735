use Rattle.pl_frame.proofs.FramePartLaws.{frame_empty}
use Rattle.pl_frame.proofs.frame.DataFrame.empty_with_schema.Goals as goal

pub of_distinct-requires : goal.of_distinct-requires
of_distinct-requires c = frame_empty c.args.schema.now _ c.in_ok-columns.ensures.columns c.len-len.ensures.distinct
