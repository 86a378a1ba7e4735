use Rattle.std.proofs.Common.{◌-◌, length}
use Rattle.pl_scan.specs.Dialect.{marks_of}
use Rattle.pl_seek.proofs.GoneLaws.{IsOn}
use Rattle.pl_seek.proofs.record_ends.add_records.Given as goal

abbrev pub invariant-loop-at : goal.invariant-loop-at
invariant-loop-at l = IsOn (marks_of l.dialect) l.input l.fn.groups l.groups l.begin l.last l.at l.carry

abbrev pub decreases-loop-at : goal.decreases-loop-at
decreases-loop-at l = length l.input - l.at
