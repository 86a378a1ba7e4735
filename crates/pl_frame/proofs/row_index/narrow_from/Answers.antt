use Rattle.std.proofs.Common.{arith}
use Rattle.pl_frame.proofs.RowIndexLaws.{number_more}
use Rattle.pl_frame.proofs.row_index.narrow_from.Goals as goal

pub loop-row-preserved : goal.loop-row-preserved
loop-row-preserved c = number_more c.args.offset c.loop-row.row c.loop-row.numbers _ _ c.loop-row.invariant (grind arith) c.in_ok-push.ensures.ok
