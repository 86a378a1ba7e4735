use Rattle.std.proofs.Common.{arith, refl}
use Rattle.pl_frame.specs.Columns.{text_in}
use Rattle.pl_frame.proofs.CastLaws.{row_more}
use Rattle.pl_frame.proofs.cast.codes_of.Goals as goal

pub loop-row-preserved : goal.loop-row-preserved
loop-row-preserved c =
    row_more text_in c.args.column.now.values c.loop-row.texts _ c.loop-row.row _ _
    (let t = c.loop-row-test.true in let e = c.len-row-end.ensures in omega (arith, t, e)) c.loop-row.invariant c.get.ensures refl c.in_ok-push_code.ensures
