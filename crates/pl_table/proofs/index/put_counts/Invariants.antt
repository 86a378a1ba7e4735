use Rattle.std.proofs.Common.{◌≡◌, ◌+◌, ◌-◌, ◌≤◌, ◌++◌, length, take}
use Rattle.pl_table.specs.Entries.{counts, Written}
use Rattle.pl_table.proofs.index.put_counts.Given as goal

abbrev pub invariant-loop-k : goal.invariant-loop-k
invariant-loop-k l = record {
  written : Written (take l.from l.fn.out ++ counts 64 l.before l.ends l.bits) l.out (l.from + l.k) (counts 64 l.before l.ends l.rest) l.rest;
  few : l.k ≤ 64;
  len : length l.out ≡ length l.fn.out;
}

abbrev pub decreases-loop-k : goal.decreases-loop-k
decreases-loop-k l = 64 - l.k
