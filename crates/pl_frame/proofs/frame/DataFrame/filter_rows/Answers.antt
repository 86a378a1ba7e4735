use Rattle.std.proofs.Common.{◌∙◌, ap}
use Rattle.pl_frame.specs.FrameParts.{filtered}
use Rattle.pl_frame.proofs.FramePartLaws.{frame_filtered}
use Rattle.pl_frame.proofs.frame.DataFrame.filter_rows.Goals as goal

pub of_distinct-requires : goal.of_distinct-requires
of_distinct-requires c =
    frame_filtered c.args.keep.now c.args.self.now _ (c.in_ok-columns.ensures.rows ∙ ap (filtered c.args.keep.now) c.columns.ensures.columns) c.columns.ensures.frame
