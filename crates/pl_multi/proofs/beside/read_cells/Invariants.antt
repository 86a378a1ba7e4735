use Rattle.std.proofs.Common.{◌≡◌, ◌≤◌, ◌-◌, ℕ, List, length}
use Rattle.pl_multi.specs.Cells.{AreSetIn, held_bytes, token_bytes}
use Rattle.pl_multi.specs.Groups.{AreRead}
use Rattle.pl_multi.proofs.beside.read_cells.Given as goal

-- so many parts were read, and stand in the first cells
abbrev pub invariant-loop-count : goal.invariant-loop-count
invariant-loop-count g l = record {
  set : AreSetIn l.cells l.shown.tokens.items;
  same : token_bytes l.shown.tokens.items ≡ held_bytes l.shown.held.items;
  read : AreRead (g.O.Opener.holds l.fn.opener) l.parts l.first (held_bytes l.shown.held.items);
  tokens : length l.shown.tokens.items ≡ l.count;
  held : length l.shown.held.items ≡ l.count;
  within : l.count ≤ length l.cells;
  later : g.O.Opener.faults l.fn.opener ≤ g.O.Opener.faults l.opener;
  stays : (other : List ℕ) → g.O.Opener.holds l.opener other ≡ g.O.Opener.holds l.fn.opener other;
}

abbrev pub decreases-loop-count : goal.decreases-loop-count
decreases-loop-count g l = length l.cells - l.count
