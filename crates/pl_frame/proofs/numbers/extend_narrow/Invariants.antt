use Rattle.std.proofs.Common.{◌≡◌, ◌+◌, ◌-◌, ◌≤◌, ◌++◌, length, map, take, vec_len, vec_capacity}
use Rattle.pl_frame.specs.Frame.{Number}
use Rattle.pl_frame.proofs.numbers.extend_narrow.Given as goal

abbrev pub invariant-loop-number : goal.invariant-loop-number
invariant-loop-number g l = record {
  items : map Number l.values.items ≡ map Number l.initial.values.items ++ map g.N.Whole.scalar (take l.number-index l.more);
  room : vec_len l.values + (length l.more - l.number-index) ≤ vec_capacity l.values;
}
