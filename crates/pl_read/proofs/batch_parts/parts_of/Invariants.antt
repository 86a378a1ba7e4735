use Rattle.pl_read.specs.NextFrames.{texts_of}
use Rattle.pl_read.proofs.NextPartLaws.{AreCut}
use Rattle.pl_read.proofs.batch_parts.parts_of.Given as goal

abbrev pub invariant-loop-left : goal.invariant-loop-left
invariant-loop-left l = AreCut l.options l.n l.rest l.left l.end (texts_of l.parts.items)

abbrev pub decreases-loop-left : goal.decreases-loop-left
decreases-loop-left l = l.left
