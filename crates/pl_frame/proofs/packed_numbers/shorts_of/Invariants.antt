use Rattle.std.proofs.Common.{◌≡◌, ◌+◌, ◌-◌, ◌≤◌, length, take, vec_len, vec_capacity}
use Rattle.pl_frame.proofs.packed_numbers.shorts_of.Given as goal

abbrev pub invariant-loop-number : goal.invariant-loop-number
invariant-loop-number l = record {
  items : l.shorts.items ≡ take l.number-index l.numbers;
  room : vec_len l.shorts + (length l.numbers - l.number-index) ≤ vec_capacity l.shorts;
}
