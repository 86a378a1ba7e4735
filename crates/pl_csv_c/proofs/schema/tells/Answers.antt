use Rattle.pl_words.specs.SchemaText.{schema_of}
use Rattle.pl_csv_c.proofs.SchemaLaws.{told-if}
use Rattle.pl_csv_c.proofs.schema.tells.Goals as goal

pub returns-in-Ok : goal.returns-in-Ok
returns-in-Ok c = told-if c.in-Ok.read c.args.schema.now (schema_of c.args.text.now) c.eq.result c.in-Ok.ensures.schema c.eq.ensures
