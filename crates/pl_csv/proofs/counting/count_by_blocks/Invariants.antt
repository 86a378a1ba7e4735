use Rattle.std.proofs.Common.{◌≤◌, ◌-◌, ◌^◌, []}
use Rattle.pl_frame.specs.Dialect.{marks}
use Rattle.pl_scan.specs.RowStates.{rows_with}
use Rattle.pl_csv.proofs.CountingLaws.{HasCounted}
use Rattle.pl_csv.proofs.counting.count_by_blocks.Given as goal

abbrev pub invariant-loop-count : goal.invariant-loop-count
invariant-loop-count g l = record {
  within : l.length ≤ 2 ^ 36;
  few : rows_with l.counter [] ≤ l.length;
  counted : HasCounted (marks l.fn.separator l.fn.quote_char l.fn.eol_char) (g.So.Source.left l.fn.source) (g.So.Source.left l.source) l.front.items l.length l.counter;
  later : g.So.Source.faults l.fn.source ≤ g.So.Source.faults l.source;
}

abbrev pub decreases-loop-count : goal.decreases-loop-count
decreases-loop-count g l = 2 ^ 36 - l.length
