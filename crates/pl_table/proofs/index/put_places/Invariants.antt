use Rattle.std.proofs.Common.{◌≡◌, ◌+◌, ◌-◌, ◌%◌, ◌≤◌, ◌++◌, length, take}
use Rattle.pl_scan.specs.Bits.{set_bits}
use Rattle.pl_table.specs.Entries.{Written}
use Rattle.pl_table.proofs.index.put_places.Given as goal

abbrev pub invariant-loop-k : goal.invariant-loop-k
invariant-loop-k l = record {
  written : Written (take l.from l.fn.out ++ set_bits 64 l.base l.bits) l.out (l.from + l.k) (set_bits 64 l.base l.rest) l.rest;
  eights : l.k % 8 ≡ 0;
  few : l.k ≤ 64;
  len : length l.out ≡ length l.fn.out;
}

abbrev pub decreases-loop-k : goal.decreases-loop-k
decreases-loop-k l = 64 - l.k
