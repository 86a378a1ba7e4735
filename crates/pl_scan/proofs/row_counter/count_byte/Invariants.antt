use Rattle.std.proofs.Common.{◌≡◌, ◌+◌, ◌==◌, ◌≤◌, length}
use Rattle.std.specs.Prelude.{count_by}
use Rattle.pl_scan.proofs.row_counter.count_byte.Given as goal

abbrev pub invariant-loop-rest : goal.invariant-loop-rest
invariant-loop-rest l = record {
  few : l.number + length l.rest ≤ length l.bytes;
  counted : l.number + count_by (λ x. x == l.byte) l.rest ≡ count_by (λ x. x == l.byte) l.bytes;
}

abbrev pub decreases-loop-rest : goal.decreases-loop-rest
decreases-loop-rest l = length l.rest
