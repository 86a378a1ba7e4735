use Rattle.std.proofs.Common.{◌+◌}
use Rattle.pl_seek.proofs.SeenLaws.{HaveCome}
use Rattle.pl_seek.proofs.places.Groups.add_each.Given as goal

abbrev pub invariant-loop-left : goal.invariant-loop-left
invariant-loop-left l = HaveCome l.fn.self l.self (l.at + 1) l.bits l.left

abbrev pub decreases-loop-left : goal.decreases-loop-left
decreases-loop-left l = l.left
