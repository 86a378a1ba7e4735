use Rattle.std.proofs.Common.{◌≡◌, ◌++◌, length}
use Rattle.pl_text.specs.FrameText.{doubled}
use Rattle.pl_write.specs.Writing.{StaysInFront}
use Rattle.pl_write.proofs.texts.push_doubled.Given as goal

abbrev pub invariant-loop-at : goal.invariant-loop-at
invariant-loop-at l = record {
  written : l.block.items ++ doubled l.quote l.rest ≡ l.initial.block.items ++ doubled l.quote l.text;
  kept : StaysInFront l.initial.block.items l.block.items;
}

abbrev pub decreases-loop-at : goal.decreases-loop-at
decreases-loop-at l = length l.rest
