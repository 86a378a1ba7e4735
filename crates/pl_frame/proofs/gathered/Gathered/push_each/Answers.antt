use Rattle.std.proofs.Common.{arith}
use Rattle.pl_frame.specs.GatheredCells.{cells_so_far}
use Rattle.pl_frame.proofs.GatheredLaws.{rows_more}
use Rattle.pl_frame.proofs.gathered.Gathered.push_each.Goals as goal

pub loop-row-preserved : goal.loop-row-preserved
loop-row-preserved c = record {
  behind = let h = c.loop-row.invariant.behind in omega (arith, h);
  suits = c.in_ok-push.ensures.suits;
  cells = rows_more c.args.column.now.values (cells_so_far c.args.column.now.dtype c.args.self.now) (cells_so_far c.args.column.now.dtype c.loop-row.self) _ c.args.from c.loop-row.row
      c.loop-row.invariant.behind (let h = c.requires.rows.1 in let l = c.loop-row-test.true in omega (arith, h, l)) c.loop-row.invariant.cells c.in_ok-push.ensures.cells;
}
