use Rattle.pl_read.proofs.BatchStepLaws.{refused-opening}
use Rattle.std.proofs.Common.{inl}
use Rattle.std.specs.Prelude.{string_bytes}
use Rattle.pl_csv_c.proofs.SchemaLaws.{told-answer, untold-answer}
use Rattle.pl_csv_c.proofs.schema.schema_checked.Goals as goal

pub returns-in-Ok-clause-told : goal.returns-in-Ok-clause-told
returns-in-Ok-clause-told c =
    told-answer string_bytes c.args.read.now c.args.input.now c.in-Ok.prepared c.told_text-text.result c.requires c.in-Ok.ensures.sound c.in-Ok.ensures.prepared c.told_text-text.ensures.text c.told_text-text.ensures.told

pub returns-in-Ok-clause-refused : goal.returns-in-Ok-clause-refused
returns-in-Ok-clause-refused c =
    untold-answer string_bytes c.args.read.now c.args.input.now c.in-Ok.prepared c.told_text-text.result c.requires c.in-Ok.ensures.sound c.in-Ok.ensures.prepared c.told_text-text.ensures.refused

pub returns-in-Err-clause-refused : goal.returns-in-Err-clause-refused
returns-in-Err-clause-refused c = inl (refused-opening c.args.read.now c.args.input.now c.in-Err.fault c.requires c.in-Err.ensures.refused)
