use Rattle.std.proofs.Common.{◌≡◌, ◌≤◌, ◌+◌, ◌*◌, ◌++◌, length, take}
use Rattle.pl_text.specs.FrameText.{doubled}
use Rattle.pl_write.proofs.put_texts.put_doubled.Given as goal

abbrev pub invariant-loop-place : goal.invariant-loop-place
invariant-loop-place l = record {
  room : l.at + 2 * length l.rest ≤ l.start + 2 * length l.text;
  written : take l.at l.to ++ doubled l.quote l.rest ≡ take l.start l.initial.to ++ doubled l.quote l.text;
}

abbrev pub decreases-loop-place : goal.decreases-loop-place
decreases-loop-place l = length l.rest
