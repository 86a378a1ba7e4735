use Rattle.std.proofs.Common.{◌≡◌, ◌-◌, ◌≤◌, ◌++◌, take, drop}
use Rattle.pl_frame.specs.GatheredCells.{SuitsType, cells_so_far}
use Rattle.pl_frame.proofs.parts.Parts.put_rows.Given as goal

abbrev pub invariant-rows : goal.invariant-rows
invariant-rows l = record {
  behind : l.from ≤ l.row;
  within : l.row ≤ l.to;
  suits : SuitsType l.dtype l.gathered;
  cells : cells_so_far l.dtype l.gathered ≡ cells_so_far l.dtype l.fn.gathered ++ take (l.row - l.from) (drop l.from l.self);
}

abbrev pub decreases-rows : goal.decreases-rows
decreases-rows l = l.to - l.row
