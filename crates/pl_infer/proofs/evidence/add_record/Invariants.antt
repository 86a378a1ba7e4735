use Rattle.std.proofs.Common.{◌≡◌, ◌++◌, length, take, drop}
use Rattle.pl_infer.specs.SampleSteps.{with_fields, with_record}
use Rattle.pl_infer.proofs.evidence.add_record.Given as goal

abbrev pub invariant-loop-column : goal.invariant-loop-column
invariant-loop-column l = record {
  same : length l.columns ≡ length l.initial.columns;
  done : take l.column l.columns ++ with_fields l.rules l.column l.fields (drop l.column l.columns) ≡ with_record l.rules l.initial.columns l.bytes;
}
