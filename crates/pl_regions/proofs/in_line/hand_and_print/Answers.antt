use Rattle.std.proofs.Common.{rules, ◌++◌, arith}
use Rattle.std.specs.List.{concat}
use Rattle.pl_write.specs.Options.{cell_options}
use Rattle.pl_intake.proofs.IntakeLaws.{IsTooLong-behind, HasStopped-behind}
use Rattle.pl_intake.proofs.TextLaws.{HasGiven-more}
use Rattle.pl_regions.proofs.ArrivingLaws.{HasInLine-handed}
use Rattle.pl_regions.proofs.in_line.hand_and_print.Goals as goal

pub returns-in_err-hand_next-clause-too_long : goal.returns-in_err-hand_next-clause-too_long
returns-in_err-hand_next-clause-too_long g c = λ fault. IsTooLong-behind _ _ _ _ _ _ _ c.loop.invariant.given.1 (c.in_err-hand_next.ensures.too_long (search rules))

pub returns-in_err-hand_next-clause-failed : goal.returns-in_err-hand_next-clause-failed
returns-in_err-hand_next-clause-failed g c = λ fault. HasStopped-behind _ _ _ _ _ _ _ c.loop.invariant.given.1 (c.in_err-hand_next.ensures.failed (search rules))

pub loop-preserved-then-len-workers : goal.loop-preserved-then-len-workers
loop-preserved-then-len-workers g c =
    let left = g.So.Source.left in
    let plan = c.args.plan.now in
    let schema = c.args.schema.now in
    let o = cell_options c.args.options.now in
    let limit = c.args.limit in
    let line = c.keep.new.self in
    let handed = c.in_ok-hand_next.ensures.handed in
    let given = c.loop.invariant.given in
    record {
      given = (given.0 ++ concat handed.more, HasGiven-more (left c.args.source.now) (left c.loop.source) (left c.hand_next.new.source) limit c.args.intake.now c.loop.intake c.hand_next.new.intake given.0 (concat handed.more) given.1 handed.given);
      line = λ before first has.
          HasInLine-handed plan schema o before (left c.loop.source) (left c.hand_next.new.source) limit first c.loop.intake c.hand_next.new.intake line.kept line.left.items line.pending c.hand_next.new.pending
          (c.in-Ok-keep.ensures.line plan schema o before (left c.loop.source) limit first c.loop.intake c.requires.can.dialect c.requires.means (c.loop.invariant.line before first has)) handed;
      few = c.in-Ok-keep.ensures.few;
      later = omega (arith, c.loop.invariant.later, c.hand_next.ensures.later);
    }
