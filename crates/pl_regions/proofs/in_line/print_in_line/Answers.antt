use Rattle.std.proofs.Common.{rules}
use Rattle.pl_write.specs.Options.{cell_options}
use Rattle.pl_intake.proofs.IntakeLaws.{IsTooLong-behind, HasStopped-behind}
use Rattle.pl_regions.proofs.ArrivingLaws.{HasInLine-handed}
use Rattle.pl_regions.proofs.in_line.print_in_line.Goals as goal

pub returns-in_err-start_and_print-clause-too_long : goal.returns-in_err-start_and_print-clause-too_long
returns-in_err-start_and_print-clause-too_long g c = λ fault. IsTooLong-behind _ _ _ _ _ _ _ c.in_ok-hand_next.ensures.handed.given (c.in_err-start_and_print.ensures.too_long (search rules))

pub returns-in_err-start_and_print-clause-failed : goal.returns-in_err-start_and_print-clause-failed
returns-in_err-start_and_print-clause-failed g c = λ fault. HasStopped-behind _ _ _ _ _ _ _ c.in_ok-hand_next.ensures.handed.given (c.in_err-start_and_print.ensures.failed (search rules))

pub returns-in-Ok-clause-line : goal.returns-in-Ok-clause-line
returns-in-Ok-clause-line g c = λ before first has.
    let left = g.So.Source.left in
    let plan = c.args.plan.now in
    let schema = c.args.schema.now in
    let o = cell_options c.args.options.now in
    let limit = c.args.limit in
    let line = c.args.line in
    c.in-Ok.ensures.line plan schema o before (left c.start_and_print.new.source) limit first c.start_and_print.new.intake c.requires.can.dialect c.requires.means
    (c.in_ok-start_and_print.ensures.line before first
    (HasInLine-handed plan schema o before (left c.args.source.now) (left c.hand_next.new.source) limit first c.args.intake.now c.hand_next.new.intake line.kept line.left.items line.pending c.hand_next.new.pending has
    c.in_ok-hand_next.ensures.handed))
