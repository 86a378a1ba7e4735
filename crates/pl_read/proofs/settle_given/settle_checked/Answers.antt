use Rattle.std.proofs.Common.{sym, ◌∙◌, ap}
use Rattle.std.specs.Prelude.{Some}
use Rattle.pl_read.proofs.SettleGivenLaws.{columns-refused}
use Rattle.pl_read.proofs.settle_given.settle_checked.Goals as goal

pub returns-in-Ok-with_given_types-clause-refused : goal.returns-in-Ok-with_given_types-clause-refused
returns-in-Ok-with_given_types-clause-refused c =
    columns-refused c.args.read.now c.in-Ok.given c.in-Ok-with_given_types.schema c.settle_columns.result (c.in-Some.is ∙ ap Some (sym c.in-Ok.ensures.equal))
    c.in-Ok-with_given_types.ensures.settled c.in-Ok-with_given_types.ensures.sound c.settle_columns.ensures.refused
