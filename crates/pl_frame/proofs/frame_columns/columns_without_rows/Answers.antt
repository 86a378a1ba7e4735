use Rattle.std.proofs.Common.{sym, ◌∙◌, []}
use Rattle.pl_frame.proofs.FramePartLaws.{empty_more}
use Rattle.pl_frame.proofs.frame_columns.columns_without_rows.Goals as goal

pub loop-i-preserved : goal.loop-i-preserved
loop-i-preserved c = empty_more c.args.schema.now _ _ c.loop-i.i (c.in-Some.name.now, c.in-Some.dtype.now) _ (sym c.in-Some.ensures)
    (c.in_ok-column-in-Some.ensures.column ∙ (λ j. record { name = c.as_str.ensures j; dtype = c.in-Some.dtype.now; values = [] })) c.loop-i.invariant c.in_ok-push_column.ensures.pushed
