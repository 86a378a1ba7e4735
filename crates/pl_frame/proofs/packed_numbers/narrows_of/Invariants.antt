use Rattle.std.proofs.Common.{◌≡◌, ◌+◌, ◌-◌, ◌≤◌, length, take, vec_len, vec_capacity}
use Rattle.pl_frame.proofs.packed_numbers.narrows_of.Given as goal

abbrev pub invariant-loop-number : goal.invariant-loop-number
invariant-loop-number l = record {
  items : l.narrows.items ≡ take l.number-index l.numbers;
  room : vec_len l.narrows + (length l.numbers - l.number-index) ≤ vec_capacity l.narrows;
}
