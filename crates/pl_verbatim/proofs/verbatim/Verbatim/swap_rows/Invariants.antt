-- The rows that were found so far were copied, to lines, to the block behind them, and to what waits behind that.
use Rattle.std.proofs.Common.{length, ◌-◌, ◌≤◌, ◌++◌, take}
use Rattle.std.specs.Prelude.{slice_range}
use Rattle.memchr.specs.Find.{Nowhere, Passes, is_byte}
use Rattle.pl_verbatim.specs.Swaps.{swapped}
use Rattle.pl_verbatim.specs.Verbatim.{AreRowsCopied}
use Rattle.pl_verbatim.proofs.verbatim.Verbatim.swap_rows.Given as goal

abbrev pub invariant-loop-now : goal.invariant-loop-now
invariant-loop-now l = record {
  few : l.rows ≤ l.now.at;
  ordered : l.now.from ≤ l.now.at;
  room : l.now.place ≤ length l.block;
  none : Nowhere (Passes (is_byte l.form.separator) l.text) l.now.at l.other;
  copied : AreRowsCopied l.self l.text l.from l.now.at l.rows l.fn.lines.items (l.lines.items ++ (take l.now.place l.block ++ swapped l.self.separator l.form.separator (slice_range l.text l.now.from l.now.at)));
  kept : AreRowsCopied l.self l.text l.from l.kept.end l.kept.rows l.fn.lines.items l.lines.items;
}

abbrev pub decreases-loop-now : goal.decreases-loop-now
decreases-loop-now l = length l.text - l.now.at
