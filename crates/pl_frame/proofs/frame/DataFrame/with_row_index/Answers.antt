use Rattle.std.proofs.Common.{◌∙◌, sym}
use Rattle.pl_frame.specs.FrameParts.{has_name}
use Rattle.pl_frame.proofs.FramePartLaws.{frame_numbered}
use Rattle.pl_frame.proofs.frame.DataFrame.with_row_index.Goals as goal

pub put_in_front-requires : goal.put_in_front-requires
put_in_front-requires c =
    frame_numbered c.args.self.now c.args.name c.args.offset c.height-rows.result c.in_ok-column.column c.in_ok-column.ensures.column c.height-rows.ensures
    ((λ j. has_name (sym c.columns.ensures.columns j) (sym c.as_str.ensures j)) ∙ sym c.has_name.ensures ∙ c.if-has_name.false) c.columns.ensures.frame
