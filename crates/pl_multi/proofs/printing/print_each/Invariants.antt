use Rattle.std.proofs.Common.{◌≡◌, ◌≤◌, ◌-◌, ℕ, List, length}
use Rattle.pl_multi.specs.Printing.{ArePrinted}
use Rattle.pl_multi.proofs.printing.print_each.Given as goal

-- the parts before the place were read, and these are their lines
abbrev pub invariant-loop-place : goal.invariant-loop-place
invariant-loop-place g l = record {
  printed : ArePrinted (g.O.Opener.holds l.fn.opener) l.fn.read l.fn.write l.fn.parts l.place l.lines.items;
  within : l.place ≤ length l.fn.parts;
  later : g.O.Opener.faults l.fn.opener ≤ g.O.Opener.faults l.opener;
  stays : (other : List ℕ) → g.O.Opener.holds l.opener other ≡ g.O.Opener.holds l.fn.opener other;
}

abbrev pub decreases-loop-place : goal.decreases-loop-place
decreases-loop-place g l = length l.fn.parts - l.place
