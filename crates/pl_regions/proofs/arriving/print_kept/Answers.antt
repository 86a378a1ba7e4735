use Rattle.std.proofs.Common.{rules, subst}
use Rattle.pl_write.specs.Options.{cell_options}
use Rattle.pl_intake.proofs.IntakeLaws.{IsTooLong-behind, HasStopped-behind}
use Rattle.pl_regions.specs.Arriving.{HasPrinted}
use Rattle.pl_regions.proofs.ArrivingLaws.{HasAllCome-kept}
use Rattle.pl_regions.proofs.arriving.print_kept.Goals as goal

pub returns-in_err-read_on-clause-too_long : goal.returns-in_err-read_on-clause-too_long
returns-in_err-read_on-clause-too_long g c = λ fault. IsTooLong-behind _ _ _ _ _ _ _ c.in_ok-kept.ensures.printed.given (c.in_err-read_on.ensures.too_long (search rules))

pub returns-in_err-read_on-clause-failed : goal.returns-in_err-read_on-clause-failed
returns-in_err-read_on-clause-failed g c = λ fault. HasStopped-behind _ _ _ _ _ _ _ c.in_ok-kept.ensures.printed.given (c.in_err-read_on.ensures.failed (search rules))

pub returns-in-Ok-clause-arrived : goal.returns-in-Ok-clause-arrived
returns-in-Ok-clause-arrived g c =
    let left = g.So.Source.left in
    let plan = c.args.plan.now in
    let schema = c.args.schema.now in
    let o = cell_options c.args.options.now in
    let printed =
    subst (λ p. HasPrinted p schema o (left c.args.source.now) (left c.print_again.new.source) c.args.limit c.args.intake.now c.print_again.new.intake c.in_ok-kept.kept)
    c.without_limit-unlimited.ensures c.in_ok-kept.ensures.printed in
    HasAllCome-kept plan schema o (left c.args.source.now) (left c.print_again.new.source) (left c.read_on.new.source) c.args.limit c.args.intake.now
    c.print_again.new.intake c.read_on.new.self c.in_ok-kept.kept _ c.requires.held printed c.in_ok-read_on.ensures.all
    c.in-Ok.ensures.end c.in-Ok.ensures.rows c.in-Ok.ensures.lines (search rules)
