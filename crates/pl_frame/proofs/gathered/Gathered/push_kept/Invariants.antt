use Rattle.std.proofs.Common.{◌≡◌, ◌++◌, take}
use Rattle.pl_frame.specs.FrameParts.{kept_of}
use Rattle.pl_frame.specs.GatheredCells.{SuitsType, cells_so_far}
use Rattle.pl_frame.proofs.gathered.Gathered.push_kept.Given as goal

abbrev pub invariant-loop-row : goal.invariant-loop-row
invariant-loop-row l = record {
  suits : SuitsType l.column.dtype l.self;
  cells : cells_so_far l.column.dtype l.self ≡ cells_so_far l.column.dtype l.fn.self ++ kept_of (take l.row l.keep) (take l.row l.column.values);
}
