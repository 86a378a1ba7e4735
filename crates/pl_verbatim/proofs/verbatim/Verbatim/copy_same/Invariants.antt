use Rattle.std.proofs.Common.{length, ◌-◌, ◌≤◌}
use Rattle.pl_verbatim.specs.Verbatim.{AreRowsCopied}
use Rattle.pl_verbatim.proofs.verbatim.Verbatim.copy_same.Given as goal

abbrev pub invariant-loop-end : goal.invariant-loop-end
invariant-loop-end l = record {
  few : l.rows ≤ l.end;
  copied : AreRowsCopied l.self l.text l.from l.end l.rows l.fn.lines.items l.lines.items;
}

abbrev pub decreases-loop-end : goal.decreases-loop-end
decreases-loop-end l = length l.text - l.end
