use Rattle.std.proofs.Common.{sym}
use Rattle.pl_infer.proofs.FieldTypeLaws.{agreed_type-many}
use Rattle.pl_infer.proofs.field_types.finish_infer_field_schema.Goals as goal

pub returns-then-possibilities-ne1-clause-agreed : goal.returns-then-possibilities-ne1-clause-agreed
returns-then-possibilities-ne1-clause-agreed c =
    sym (agreed_type-many c.args.possibilities.now c.requires.distinct c.if-possibilities-ne1.true)
