-- The rows that were found so far were copied, to lines and to the block behind them.
use Rattle.std.proofs.Common.{length, ◌-◌, ◌≤◌, ◌++◌, take}
use Rattle.pl_verbatim.specs.Verbatim.{AreRowsCopied}
use Rattle.pl_verbatim.proofs.verbatim.Verbatim.change.Given as goal

abbrev pub invariant-loop-end : goal.invariant-loop-end
invariant-loop-end l = record {
  few : l.rows ≤ l.end;
  room : l.place ≤ length l.block;
  copied : AreRowsCopied l.self l.text l.from l.end l.rows l.fn.lines.items (l.lines.items ++ take l.place l.block);
  kept : AreRowsCopied l.self l.text l.from l.kept.end l.kept.rows l.fn.lines.items l.lines.items;
}

abbrev pub decreases-loop-end : goal.decreases-loop-end
decreases-loop-end l = length l.text - l.end
