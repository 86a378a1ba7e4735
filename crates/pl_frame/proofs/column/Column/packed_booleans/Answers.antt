use Rattle.pl_frame.proofs.CellLaws.{truths_hold}
use Rattle.pl_frame.proofs.column.Column.packed_booleans.Goals as goal

pub of_part-requires-clause-held : goal.of_part-requires-clause-held
of_part-requires-clause-held c = truths_hold c.in_ok-try_clone.field-0
