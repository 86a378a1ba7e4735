use Rattle.std.proofs.Common.{rules}
use Rattle.std.specs.List.{concat}
use Rattle.pl_write.specs.Options.{cell_options}
use Rattle.pl_intake.proofs.TextLaws.{values_of}
use Rattle.pl_intake.proofs.IntakeLaws.{IsTooLong-behind, HasStopped-behind}
use Rattle.pl_regions.proofs.ArrivingLaws.{HasAllCome-front}
use Rattle.pl_regions.proofs.arriving.print_lent.Goals as goal

pub returns-in_err-read_on-clause-too_long : goal.returns-in_err-read_on-clause-too_long
returns-in_err-read_on-clause-too_long g c = λ fault. IsTooLong-behind _ _ _ _ _ _ _ c.in_ok-tokens.ensures.given (c.in_err-read_on.ensures.too_long (search rules))

pub returns-in_err-read_on-clause-failed : goal.returns-in_err-read_on-clause-failed
returns-in_err-read_on-clause-failed g c = λ fault. HasStopped-behind _ _ _ _ _ _ _ c.in_ok-tokens.ensures.given (c.in_err-read_on.ensures.failed (search rules))

pub returns-in-Ok-clause-arrived : goal.returns-in-Ok-clause-arrived
returns-in-Ok-clause-arrived g c =
    let left = g.So.Source.left in
    HasAllCome-front c.args.plan.now c.args.schema.now (cell_options c.args.options.now) (left c.args.source.now) (left c.read_and_print.new.source) (left c.read_on.new.source) c.args.limit c.args.intake.now
    c.read_and_print.new.intake c.read_on.new.self (concat (values_of c.in_ok-tokens.tokens.items)) c.rest-rest.result.now c.in-Ok.arrived
    c.in_ok-tokens.ensures.given c.in_ok-read_on.ensures.all c.rest-rest.ensures c.in-Ok.ensures.arrived
