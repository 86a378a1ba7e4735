use Rattle.std.proofs.Common.{◌≡◌, ◌-◌, ◌≤◌, ◌++◌, take, drop}
use Rattle.pl_frame.specs.GatheredCells.{SuitsType, cells_so_far}
use Rattle.pl_frame.proofs.gathered.Gathered.push_each.Given as goal

abbrev pub invariant-loop-row : goal.invariant-loop-row
invariant-loop-row l = record {
  behind : l.from ≤ l.row;
  suits : SuitsType l.column.dtype l.self;
  cells : cells_so_far l.column.dtype l.self ≡ cells_so_far l.column.dtype l.fn.self ++ take (l.row - l.from) (drop l.from l.column.values);
}
