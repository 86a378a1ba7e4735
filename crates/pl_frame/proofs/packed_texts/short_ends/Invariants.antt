use Rattle.std.proofs.Common.{◌≡◌, ◌+◌, ◌-◌, ◌≤◌, length, take, vec_len, vec_capacity}
use Rattle.pl_frame.proofs.packed_texts.short_ends.Given as goal

abbrev pub invariant-loop-end : goal.invariant-loop-end
invariant-loop-end l = record {
  items : l.short.items ≡ take l.end-index l.ends;
  room : vec_len l.short + (length l.ends - l.end-index) ≤ vec_capacity l.short;
}
