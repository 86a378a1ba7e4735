-- The rows that were found so far are written so.
use Rattle.std.proofs.Common.{◌≤◌, ◌-◌, []}
use Rattle.std.specs.Prelude.{slice_range}
use Rattle.pl_verbatim.specs.Swaps.{swapped}
use Rattle.pl_verbatim.specs.Verbatim.{AreRowsCopied}
use Rattle.pl_verbatim.proofs.verbatim.Verbatim.swapped_rows.Given as goal

abbrev pub invariant-loop-end : goal.invariant-loop-end
invariant-loop-end l = record {
  few : l.rows ≤ l.end;
  before : l.end ≤ l.to;
  copied : AreRowsCopied l.self l.text l.from l.end l.rows [] (swapped l.self.separator l.form.separator (slice_range l.text l.from l.end));
}

abbrev pub decreases-loop-end : goal.decreases-loop-end
decreases-loop-end l = l.to - l.end
