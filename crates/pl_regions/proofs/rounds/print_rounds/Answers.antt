use Rattle.std.proofs.Common.{rules, arith}
use Rattle.pl_write.specs.Options.{cell_options}
use Rattle.pl_intake.proofs.IntakeLaws.{IsTooLong-behind, HasStopped-behind}
use Rattle.pl_regions.proofs.ArrivingLaws.{HasPrinted-none}
use Rattle.pl_regions.proofs.RegionLaws.{few-none}
use Rattle.pl_regions.proofs.rounds.print_rounds.Goals as goal

pub loop-init : goal.loop-init
loop-init g c = record {
  printed =
      HasPrinted-none c.args.plan.now c.args.schema.now (cell_options c.args.options.now) (g.So.Source.left c.args.source.now) c.args.limit c.args.intake.now c.none-kept.result c.requires.within c.requires.ended
      c.none-kept.ensures.end c.none-kept.ensures.rows c.none-kept.ensures.lines;
  few = few-none c.args.most c.none-kept.result.rows c.none-kept.ensures.rows;
  later = omega arith;
}

pub returns-in_err-after-clause-too_long : goal.returns-in_err-after-clause-too_long
returns-in_err-after-clause-too_long g c = λ fault. IsTooLong-behind _ _ _ _ _ _ _ c.loop.invariant.printed.given (c.in_err-after.ensures.too_long (search rules))

pub returns-in_err-after-clause-failed : goal.returns-in_err-after-clause-failed
returns-in_err-after-clause-failed g c = λ fault. HasStopped-behind _ _ _ _ _ _ _ c.loop.invariant.printed.given (c.in_err-after.ensures.failed (search rules))

pub returns-then-not-is_all-clause-printed : goal.returns-then-not-is_all-clause-printed
returns-then-not-is_all-clause-printed g c = c.in_ok-after.ensures.printed (g.So.Source.left c.args.source.now) c.args.intake.now c.loop.invariant.printed
