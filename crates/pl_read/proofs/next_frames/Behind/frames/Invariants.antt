use Rattle.std.proofs.Common.{reverse, length}
use Rattle.pl_read.proofs.NextFrameLaws.{AreFramed}
use Rattle.pl_read.proofs.next_frames.Behind.frames.Given as goal

abbrev pub invariant-loop-part : goal.invariant-loop-part
invariant-loop-part l = AreFramed l.self l.fn.parts.items (reverse l.parts.items) l.frames.items l.before

abbrev pub decreases-loop-part : goal.decreases-loop-part
decreases-loop-part l = length l.parts.items
