use Rattle.std.proofs.Common.{◌∙◌, ap}
use Rattle.std.specs.Prelude.{is_some}
use Rattle.pl_words.proofs.SchemaLaws.{has_name-is}
use Rattle.pl_words.proofs.schema_text.has_name.Goals as goal

pub returns : goal.returns
returns c = c.is_some.ensures ∙ ap is_some c.index_of.ensures ∙ has_name-is c.args.name.now c.args.schema.now
