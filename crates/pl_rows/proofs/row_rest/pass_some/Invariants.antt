use Rattle.std.proofs.Common.{◌≡◌, drop}
use Rattle.pl_scan.specs.Dialect.{marks_of}
use Rattle.pl_rows.specs.RowRest.{fields_left, behind_row}
use Rattle.pl_rows.proofs.row_rest.pass_some.Given as goal

abbrev pub invariant-loop : goal.invariant-loop
invariant-loop l = record {
  left : fields_left (marks_of l.dialect) l.left ≡ drop l.counter (fields_left (marks_of l.dialect) l.fn.rest);
  behind : behind_row (marks_of l.dialect) l.left ≡ behind_row (marks_of l.dialect) l.fn.rest;
}
