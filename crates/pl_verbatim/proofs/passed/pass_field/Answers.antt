use Rattle.std.proofs.Common.{arith}
use Rattle.pl_verbatim.proofs.passed.pass_field.Goals as goal

pub returns : goal.returns
returns c = record {
  end = c.in_ok-end.end;
  next_is = c.pass.ensures;
  after = c.in_ok-end.ensures.after;
  within = omega (arith, c.if-end-text.false);
  mark_is = c.if-text-end.false;
  field = c.in_ok-end.ensures.field;
}
