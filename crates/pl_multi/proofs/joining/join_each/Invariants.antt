use Rattle.std.proofs.Common.{◌≡◌, ◌≤◌, ◌-◌, ℕ, List, length}
use Rattle.pl_frame.specs.Frame.{IsFrame, height_of}
use Rattle.pl_frame.specs.FrameParts.{HaveSameColumns}
use Rattle.pl_multi.specs.Joining.{AreJoined}
use Rattle.pl_multi.specs.Scan.{part_options}
use Rattle.pl_multi.proofs.joining.join_each.Given as goal

-- the parts before the place were read, and their rows are the columns
abbrev pub invariant-loop-place : goal.invariant-loop-place
invariant-loop-place g l = record {
  joined : AreJoined (g.O.Opener.holds l.fn.opener) l.fn.read l.fn.end l.fn.parts l.place l.stacks;
  frame : IsFrame l.stacks;
  same : HaveSameColumns l.fn.stacks l.stacks;
  counted : l.rows ≡ height_of l.stacks;
  options_are : l.options ≡ part_options l.fn.read l.options.n_rows;
  within : l.place ≤ length l.fn.parts;
  later : g.O.Opener.faults l.fn.opener ≤ g.O.Opener.faults l.opener;
  stays : (other : List ℕ) → g.O.Opener.holds l.opener other ≡ g.O.Opener.holds l.fn.opener other;
}

abbrev pub decreases-loop-place : goal.decreases-loop-place
decreases-loop-place g l = length l.fn.parts - l.place
