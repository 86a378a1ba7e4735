use Rattle.std.proofs.Common.{arith}
use Rattle.std.specs.Prelude.{slice_range}
use Rattle.pl_verbatim.proofs.ChangeLaws.{kind-other, value-change, slice-some}
use Rattle.pl_verbatim.proofs.found.find_value.Goals as goal

pub returns : goal.returns
returns g c = record {
  after = omega (arith, c.in_ok-end.ensures.after);
  within = omega (arith, c.if-end-text.false);
  mark_is = c.if-text-end.false;
  ordered = omega (arith, c.in_ok-end.ensures.after);
  inside = c.in_ok-end.ensures.within;
  few = omega arith;
  cell =
      value-change c.args.separator c.args.quote c.args.form.now c.args.kind (slice_range c.args.text.now c.args.at c.in_ok-end.end) c.quotes.result (kind-other c.args.kind c.requires.other)
      (slice-some c.args.text.now c.args.at c.in_ok-end.end c.in_ok-end.ensures.after c.in_ok-end.ensures.within) c.in_ok-end.ensures.cell c.quotes.ensures;
}
