use Rattle.std.proofs.Common.{◌≡◌, ◌+◌, length}
use Rattle.pl_infer.specs.Header.{counted_names}
use Rattle.pl_infer.proofs.header.counted_names.Given as goal

abbrev pub invariant-loop : goal.invariant-loop
invariant-loop l = record {
  can : (goal.iterator-loop).can_next l.iterator';
  finite : (goal.iterator-loop).is_finite l.iterator';
  own : l.names.items ≡ counted_names (length l.names.items);
  count : length l.names.items + length l.iterator' ≡ length l.fn.fields;
}
