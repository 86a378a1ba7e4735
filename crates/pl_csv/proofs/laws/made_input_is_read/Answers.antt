use Rattle.pl_csv.proofs.MadeReadLaws.{made_read}
use Rattle.pl_csv.proofs.laws.made_input_is_read.Goals as goal

pub returns : goal.returns
returns c = made_read c.fields_return.ensures c.values_are_fields.ensures c.lines_return.ensures c.rows_return.ensures
