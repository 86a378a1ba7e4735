use Rattle.std.proofs.Common.{◌∙◌, ap}
use Rattle.pl_frame.specs.FrameParts.{columns_at}
use Rattle.pl_frame.proofs.FramePartLaws.{frame_at}
use Rattle.pl_frame.proofs.frame.DataFrame.select.Goals as goal

pub of_distinct-requires : goal.of_distinct-requires
of_distinct-requires c =
    frame_at c.args.which.now c.args.self.now _ (c.in_ok-columns.ensures.columns ∙ ap (columns_at c.args.which.now) c.columns.ensures.columns) c.requires.within c.requires.distinct
    c.columns.ensures.frame
