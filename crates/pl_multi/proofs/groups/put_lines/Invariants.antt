use Rattle.std.proofs.Common.{◌≡◌, ◌+◌, ◌++◌, length, reverse}
use Rattle.pl_multi.specs.Groups.{texts_of, first_refusal}
use Rattle.pl_multi.proofs.GroupLaws.{came_of}
use Rattle.pl_multi.proofs.groups.put_lines.Given as goal

-- the lines of the parts before the place are put, and none of these was refused
abbrev pub invariant-loop-one : goal.invariant-loop-one
invariant-loop-one g l = record {
  lines : l.lines.items ++ texts_of (came_of (reverse l.group.items)) ≡ l.fn.lines.items ++ texts_of (came_of l.fn.group.items);
  first : first_refusal l.place (came_of (reverse l.group.items)) ≡ first_refusal l.fn.first (came_of l.fn.group.items);
  count : l.place + length l.group.items ≡ l.fn.first + length l.fn.group.items;
}

abbrev pub decreases-loop-one : goal.decreases-loop-one
decreases-loop-one g l = length l.group.items
