use Rattle.std.proofs.Common.{◌≡◌, ◌≤◌, ◌+◌, ◌*◌, ◌++◌, take}
use Rattle.pl_text.specs.FrameText.{doubled}
use Rattle.pl_write.proofs.put_parts.put_doubled_bytes.Given as goal

abbrev pub invariant-loop-byte : goal.invariant-loop-byte
invariant-loop-byte l = record {
  room : l.at ≤ l.start + 2 * l.byte-index;
  written : take l.at l.to ≡ take l.start l.initial.to ++ doubled l.quote (take l.byte-index l.text);
}
