use Rattle.std.proofs.Common.{◌≡◌, ◌+◌, ◌-◌, ◌*◌, length}
use Rattle.pl_stream.specs.Head.{IsReached, rank}
use Rattle.pl_stream.specs.declared.place.Place.TheVariants as spot
use Rattle.pl_stream.proofs.head.advance.Given as goal

abbrev pub invariant-loop-next : goal.invariant-loop-next
invariant-loop-next l = IsReached l.options l.fn.place l.bytes l.reached × (l.reached.place ≡ spot.Start → (l.fn.place ≡ spot.Start) × (l.reached.at ≡ 0))

abbrev pub decreases-loop-next : goal.decreases-loop-next
decreases-loop-next l = 8 * (length l.bytes - l.reached.at) + rank l.reached.place
