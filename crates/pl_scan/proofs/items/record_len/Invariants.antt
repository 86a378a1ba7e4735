use Rattle.std.proofs.Common.{◌≡◌, ◌≤◌, ◌+◌, ◌-◌, length, drop}
use Rattle.pl_frame.specs.Dialect.{marks}
use Rattle.pl_scan.specs.Fields.{extent}
use Rattle.pl_scan.proofs.items.record_len.Given as goal

abbrev pub invariant-loop-at : goal.invariant-loop-at
invariant-loop-at l = record {
  within : l.at ≤ length l.slice;
  value : extent (marks l.separator l.quote_char l.eol_char) l.slice ≡ l.at + extent (marks l.separator l.quote_char l.eol_char) (drop l.at l.slice);
}

abbrev pub decreases-loop-at : goal.decreases-loop-at
decreases-loop-at l = length l.slice - l.at
