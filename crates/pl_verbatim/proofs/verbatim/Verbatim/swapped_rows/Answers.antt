-- Each row is one more of those that are written so.
use Rattle.std.proofs.Common.{arith}
use Rattle.pl_verbatim.proofs.SwapLaws.{swap-none, swap-more}
use Rattle.pl_verbatim.proofs.verbatim.Verbatim.swapped_rows.Goals as goal

pub loop-end-init : goal.loop-end-init
loop-end-init c = record {
  few = omega arith;
  before = c.requires.ordered;
  copied = swap-none c.args.self.now c.args.form.now.separator c.args.text.now c.args.from (omega (arith, c.requires.ordered, c.requires.inside));
}

pub loop-end-preserved : goal.loop-end-preserved
loop-end-preserved c = record {
  few = omega (arith, c.loop-end.invariant.few, c.in-Some.ensures.after);
  before = omega arith;
  copied =
      swap-more c.args.self.now c.args.form.now c.args.text.now c.args.from c.args.to c.loop-end.end c.in-Some.next c.loop-end.rows c.deref.result.now c.rows_return.ensures c.requires.whole c.requires.form c.deref.ensures.value c.in-Some.ensures.some
      c.requires.swap c.requires.quotes c.requires.others c.in-Some.ensures.after c.in-Some.ensures.within (omega arith) c.in-Some.ensures.line c.loop-end.invariant.copied;
}
