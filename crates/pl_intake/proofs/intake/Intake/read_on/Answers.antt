use Rattle.std.proofs.Common.{rules, refl, arith, []}
use Rattle.pl_intake.specs.Intake.{HasStopped, IsPastLimit}
use Rattle.pl_intake.proofs.IntakeLaws.{HasGiven-nothing, HasGiven-then, IsReadOn-behind, HasGainedAll-kept, HasStopped-behind, IsTooLong-behind, nearer}
use Rattle.pl_intake.proofs.intake.Intake.read_on.Goals as goal

pub loop-self-init : goal.loop-self-init
loop-self-init g c = record {
  given = HasGiven-nothing (g.So.Source.left c.args.source.now) c.args.limit c.args.self.now c.args.self.now [] refl c.requires.within c.requires.ended refl;
  within = c.requires.within;
  later = omega arith;
}

pub loop-self-smaller : goal.loop-self-smaller
loop-self-smaller g c =
    let came = c.in_ok-read_block.ensures.given in
    nearer c.loop-self.self.size c.read_block.new.self.size c.args.limit c.loop-self.self.is_ended c.read_block.new.self.is_ended c.loop-self-test.true (omega (arith, came.gained.size_is)) came.gained.within
    c.in_ok-read_block.ensures.nearer

pub loop-self-preserved : goal.loop-self-preserved
loop-self-preserved g c =
    let came = c.in_ok-read_block.ensures.given in
    record {
      given = HasGiven-then _ _ _ _ _ _ _ [] c.loop-self.invariant.given came;
      within = came.gained.within;
      later = omega (arith, c.in_ok-read_block.ensures.later);
    }

pub returns-in_err-read_block-clause-too_long : goal.returns-in_err-read_block-clause-too_long
returns-in_err-read_block-clause-too_long g c = λ is.
    let far : IsPastLimit (g.So.Source.left c.loop-self.source) (g.So.Source.left c.read_block.new.source) c.args.limit c.loop-self.self.size = search rules in
    IsTooLong-behind _ _ _ _ _ _ _ c.loop-self.invariant.given far

pub returns-in_err-read_block-clause-failed : goal.returns-in_err-read_block-clause-failed
returns-in_err-read_block-clause-failed g c = λ is.
    let stopped : HasStopped (g.So.Source.left c.loop-self.source) (g.So.Source.left c.read_block.new.source) c.args.limit c.loop-self.self.size = search rules in
    HasStopped-behind _ _ _ _ _ _ _ c.loop-self.invariant.given stopped

pub returns-clause-all : goal.returns-clause-all
returns-clause-all g c = HasGainedAll-kept _ _ _ _ _ c.loop-self.invariant.given c.loop-self-test.false

pub returns-in_err-read_block-clause-read_on : goal.returns-in_err-read_block-clause-read_on
returns-in_err-read_block-clause-read_on g c = IsReadOn-behind _ _ _ _ c.loop-self.invariant.given.gained.came c.in_err-read_block.ensures.read_on
