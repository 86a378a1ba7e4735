use Rattle.std.proofs.Common.{refl, arith}
use Rattle.std.specs.Prelude.{slice_range}
use Rattle.pl_verbatim.specs.declared.kinds.Kind.TheVariants as kind
use Rattle.pl_verbatim.proofs.ChangeLaws.{moment-change, moment-quotes, kind-other, value-change, slice-some}
use Rattle.pl_verbatim.proofs.MomentCellLaws.{moment-kind}
use Rattle.pl_verbatim.proofs.found.find_moment.Goals as goal

pub returns-then-text-seconds : goal.returns-then-text-seconds
returns-then-text-seconds c = record {
  after = omega (arith, c.in_ok-seconds.ensures.after);
  within = omega (arith, c.if-seconds-text.true);
  mark_is = c.if-text-seconds.true;
  ordered = omega (arith, c.in_ok-seconds.ensures.after);
  inside = c.in_ok-seconds.ensures.within;
  few = omega (arith, c.requires.places.1);
  cell = moment-change c.args.separator c.args.quote c.args.form.now c.args.places (slice_range c.args.text.now c.args.at c.in_ok-seconds.seconds) c.in_ok-seconds.ensures.seconds;
}

pub returns : goal.returns
returns c =
    let field = slice_range c.args.text.now c.args.at c.in_ok-end.end in
    let own = kind.Datetime c.args.places in
    record {
      after = omega (arith, c.in_ok-seconds.ensures.after, c.in_ok-end.ensures.after);
      within = omega (arith, c.if-end-text.false);
      mark_is = c.if-text-end.false;
      ordered = omega (arith, c.in_ok-seconds.ensures.after, c.in_ok-end.ensures.after);
      inside = c.in_ok-end.ensures.within;
      few = omega arith;
      cell =
          value-change c.args.separator c.args.quote c.args.form.now own field c.args.form.now.quotes_values (kind-other own (λ e. absurd (cc)))
          (slice-some c.args.text.now c.args.at c.in_ok-end.end (omega (arith, c.in_ok-seconds.ensures.after, c.in_ok-end.ensures.after)) c.in_ok-end.ensures.within)
          (moment-kind c.args.separator c.args.quote own c.args.places field refl (c.in_ok-end.ensures.moment c.args.at c.in_ok-seconds.ensures.after c.in_ok-seconds.ensures.seconds))
          (moment-quotes c.args.form.now c.args.places);
    }
