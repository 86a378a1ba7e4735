use Rattle.std.proofs.Common.{◌∙◌}
use Rattle.pl_words.proofs.SchemaLaws.{with_type-new}
use Rattle.pl_words.proofs.schema_text.push_entry.Goals as goal

pub returns-in-Ok-clause-pushed : goal.returns-in-Ok-clause-pushed
returns-in-Ok-clause-pushed c =
    c.in-Ok.ensures.set ∙ with_type-new c.args.schema.now c.in_ok-copy.copy c.args.name.now c.args.dtype c.in_ok-copy.ensures.copied c.requires
