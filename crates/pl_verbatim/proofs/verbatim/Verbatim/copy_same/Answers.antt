-- Each row is one more of those that were copied.
use Rattle.std.proofs.Common.{◌≡◌, length, ap, subst, sym, ◌∙◌, arith, take}
use Rattle.std.proofs.Math.Seq.{take-append_seam}
use Rattle.pl_verbatim.specs.Verbatim.{AreRowsCopied}
use Rattle.pl_verbatim.proofs.FrontLaws.{copied-none, copied-more}
use Rattle.pl_verbatim.proofs.verbatim.Verbatim.copy_same.Goals as goal

pub loop-end-init : goal.loop-end-init
loop-end-init c = record { few = omega arith; copied = copied-none c.args.self.now c.args.text.now c.args.from c.args.lines.now.items c.requires.inside }

pub overflow_add-rows : goal.overflow_add-rows
overflow_add-rows c = record { fits = omega (arith, c.loop-end.invariant.few, c.in-Some.ensures.after, c.in-Some.ensures.within) }

pub loop-end-preserved : goal.loop-end-preserved
loop-end-preserved c = record {
  few = omega (arith, c.loop-end.invariant.few, c.in-Some.ensures.after);
  copied =
      let verbatim = c.args.self.now in
      let text = c.args.text.now in
      copied-more verbatim text c.args.from c.loop-end.end c.in-Some.next c.loop-end.rows c.deref.result.now c.args.lines.now.items c.loop-end.lines.items c.copy_row.new.lines.items c.loop-end.invariant.copied
      c.rows_return.ensures c.requires.same c.deref.ensures.value c.in-Some.ensures.some c.in-Some.ensures.after c.in-Some.ensures.within c.in-Some.ensures.copied;
}

pub returns-after-loop-end : goal.returns-after-loop-end
returns-after-loop-end c = c.loop-end.invariant.copied

pub returns-in-None : goal.returns-in-None
returns-in-None c =
    let row = c.copy_row.ensures.copied in
    let lines = c.loop-end.lines.items in
    let long : c.len-len.result ≡ length lines = omega (arith, c.len-len.ensures) in
    let kept = c.truncate.ensures.items ∙ ap (λ n. take n c.copy_row.new.lines.items) long ∙ ap (take (length lines)) row.now_is ∙ take-append_seam lines row.copy in
    subst (AreRowsCopied c.args.self.now c.args.text.now c.args.from c.loop-end.end c.loop-end.rows c.args.lines.now.items) (sym kept) c.loop-end.invariant.copied
