use Rattle.std.proofs.Common.{◌≡◌, ◌+◌, ◌-◌, ◌≤◌, ◌++◌, true, length, replicate, vec_len, vec_capacity}
use Rattle.pl_frame.proofs.texts.extend_flags.Given as goal

abbrev pub invariant-loop-place : goal.invariant-loop-place
invariant-loop-place l = record {
  items : l.flags.items ≡ l.initial.flags.items ++ replicate (l.place - length l.more) true;
  behind : length l.more ≤ l.place;
  room : vec_len l.flags + (l.count - l.place) ≤ vec_capacity l.flags;
}
