use Rattle.std.proofs.Common.{◌∙◌}
use Rattle.pl_frame.specs.FrameParts.{stacked}
use Rattle.pl_frame.proofs.FramePartLaws.{frame_stacked}
use Rattle.pl_frame.proofs.frame.DataFrame.vstack.Goals as goal

pub of_distinct-requires : goal.of_distinct-requires
of_distinct-requires c =
    frame_stacked c.args.self.now c.args.other.now _ (c.in_ok-columns.ensures.rows ∙ (λ j. stacked (c.columns.ensures.columns j) (c.columns-2.ensures.columns j))) c.requires.same
    c.columns.ensures.frame c.columns-2.ensures.frame
