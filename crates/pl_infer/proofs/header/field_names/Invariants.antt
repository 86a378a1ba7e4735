use Rattle.std.proofs.Common.{◌≡◌, ◌++◌}
use Rattle.pl_infer.specs.ReadNames.{written}
use Rattle.pl_infer.proofs.header.field_names.Given as goal

abbrev pub invariant-loop-field : goal.invariant-loop-field
invariant-loop-field l = record {
  can : (goal.iterator-loop-field).can_next l.field-iterator;
  finite : (goal.iterator-loop-field).is_finite l.field-iterator;
  names : l.names.items ++ written l.quote_char l.field-iterator ≡ written l.quote_char l.fn.fields;
}
