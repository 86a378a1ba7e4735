use Rattle.std.proofs.Common.{◌∙◌, ap}
use Rattle.pl_frame.specs.FrameParts.{sliced}
use Rattle.pl_frame.proofs.FramePartLaws.{frame_sliced}
use Rattle.pl_frame.proofs.frame.DataFrame.slice.Goals as goal

pub of_distinct-requires : goal.of_distinct-requires
of_distinct-requires c =
    frame_sliced c.args.offset c.args.«length» c.args.self.now _ (c.in_ok-columns.ensures.rows ∙ ap (sliced c.args.offset c.args.«length») c.columns.ensures.columns) c.columns.ensures.frame
