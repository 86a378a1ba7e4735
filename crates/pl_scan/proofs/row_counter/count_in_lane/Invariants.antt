use Rattle.std.proofs.Common.{◌≡◌, ◌==◌, ◌≤◌, take}
use Rattle.std.specs.Prelude.{count_by}
use Rattle.pl_scan.proofs.row_counter.count_in_lane.Given as goal

abbrev pub invariant-loop-x : goal.invariant-loop-x
invariant-loop-x l = record {
  few : l.number ≤ l.x-index;
  counted : l.number ≡ count_by (λ x. x == l.byte) (take l.x-index l.lane);
}
