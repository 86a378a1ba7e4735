use Rattle.std.proofs.Common.{arith, refl}
use Rattle.pl_frame.specs.GatheredCells.{cells_so_far}
use Rattle.pl_frame.proofs.GatheredLaws.{flagged_more}
use Rattle.pl_frame.proofs.gathered.Gathered.push_kept.Goals as goal

pub loop-row-preserved : goal.loop-row-preserved
loop-row-preserved c = record {
  suits = c.in_ok-push_if.ensures.suits;
  cells = flagged_more c.args.keep.now c.args.column.now.values (cells_so_far c.args.column.now.dtype c.args.self.now) (cells_so_far c.args.column.now.dtype c.loop-row.self) _ c.loop-row.row _
      c.requires.flags (omega arith) refl c.loop-row.invariant.cells c.in_ok-push_if.ensures.cells;
}
