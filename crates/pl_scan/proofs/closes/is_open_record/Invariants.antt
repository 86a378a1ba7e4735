use Rattle.std.proofs.Common.{◌≡◌}
use Rattle.pl_frame.specs.Dialect.{marks}
use Rattle.pl_scan.specs.Fields.{fields}
use Rattle.pl_scan.specs.Closing.{have_open_end}
use Rattle.pl_scan.proofs.CloseLaws.{last_open, marked}
use Rattle.pl_scan.proofs.closes.is_open_record.Given as goal

abbrev pub invariant-loop-field : goal.invariant-loop-field
invariant-loop-field l = record {
  can : (goal.iterator-loop-field).can_next l.field-iterator;
  finite : (goal.iterator-loop-field).is_finite l.field-iterator;
  own : marked l.quote_char l.field-iterator ≡ l.field-iterator;
  value : last_open (marks l.separator l.quote_char l.eol_char) l.open l.field-iterator
      ≡ have_open_end (marks l.separator l.quote_char l.eol_char) (fields (marks l.separator l.quote_char l.eol_char) l.slice);
}
