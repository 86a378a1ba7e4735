use Rattle.std.proofs.Common.{◌≡◌, ◌+◌, ◌-◌, ◌≤◌, ◌++◌, length, map, take, vec_len, vec_capacity}
use Rattle.pl_frame.proofs.texts.extend_short_run.Given as goal

abbrev pub invariant-loop-end : goal.invariant-loop-end
invariant-loop-end l = record {
  items : l.ends.items ≡ l.initial.ends.items ++ map (λ end. l.base + (end - l.start)) (take l.end-index l.more);
  room : vec_len l.ends + (length l.more - l.end-index) ≤ vec_capacity l.ends;
}
