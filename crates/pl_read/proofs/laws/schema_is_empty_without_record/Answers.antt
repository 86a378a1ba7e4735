use Rattle.pl_read.proofs.EmptyLaws.{schema-empty}
use Rattle.pl_read.proofs.laws.schema_is_empty_without_record.Goals as goal

pub returns : goal.returns
returns c = schema-empty
