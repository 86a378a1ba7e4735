use Rattle.std.proofs.Common.{arith}
use Rattle.pl_frame.specs.Casts.{number_in}
use Rattle.pl_frame.specs.Types.{from_to}
use Rattle.pl_frame.proofs.CastLaws.{row_more}
use Rattle.pl_frame.proofs.cast.narrow_of_rows.Goals as goal

pub loop-row-preserved : goal.loop-row-preserved
loop-row-preserved c =
    row_more (number_in (from_to c.args.range.now.low c.args.range.now.high)) c.args.column.now.values c.loop-row.numbers _ c.loop-row.row _ c.number_in.result
    (let t = c.loop-row-test.true in let e = c.len-row-end.ensures in omega (arith, t, e)) c.loop-row.invariant c.get.ensures c.number_in.ensures c.in_ok-push_narrow.ensures
