-- Each row is one more of those that were copied.
use Rattle.std.proofs.Common.{◌+◌, ◌++◌, take, sym, subst, append-nil, arith}
use Rattle.std.specs.Result.{is_ok}
use Rattle.pl_verbatim.specs.Verbatim.{AreRowsCopied}
use Rattle.pl_verbatim.proofs.FrontLaws.{changed-more, copied-none, row-behind}
use Rattle.pl_verbatim.proofs.RowCopyLaws.{added}
use Rattle.pl_verbatim.proofs.verbatim.Verbatim.change.Goals as goal

pub loop-end-init : goal.loop-end-init
loop-end-init c =
    let lines = c.reserve.new.self.items in
    let first =
    subst (λ before. AreRowsCopied c.args.self.now c.args.text.now c.args.from c.args.from 0 before lines) c.reserve.ensures.items (copied-none c.args.self.now c.args.text.now c.args.from lines c.requires.inside) in
    record {
      few = omega arith;
      room = omega arith;
      copied = subst (AreRowsCopied c.args.self.now c.args.text.now c.args.from c.args.from 0 c.args.lines.now.items) (sym (append-nil lines)) first;
      kept = first;
    }

pub loop-end-preserved : goal.loop-end-preserved
loop-end-preserved c =
    let lines = c.loop-end.lines.items in
    record {
      few = omega (arith, c.loop-end.invariant.few, c.in-Some.ensures.after);
      room = c.in-Some.ensures.room;
      copied =
          changed-more c.args.self.now c.args.form.now c.args.text.now c.args.from c.loop-end.end c.in-Some.next c.loop-end.rows c.deref.result.now c.args.lines.now.items (lines ++ take c.loop-end.place c.loop-end.block)
          (lines ++ take c.in-Some.behind c.put_row.new.out) c.loop-end.invariant.copied c.rows_return.ensures c.requires.form c.deref.ensures.value c.in-Some.ensures.some c.in-Some.ensures.after c.in-Some.ensures.within
          (row-behind c.args.text.now c.loop-end.end c.deref.result.now c.args.self.now.separator c.args.self.now.quote_char c.args.form.now lines _ _ c.in-Some.next c.in-Some.ensures.put);
      kept = c.loop-end.invariant.kept;
    }

pub loop-end-preserved-then-place-ge-FULL : goal.loop-end-preserved-then-place-ge-FULL
loop-end-preserved-then-place-ge-FULL c =
    let lines = c.loop-end.lines.items in
    let all = lines ++ take c.in-Some.behind c.put_row.new.out in
    let copied : AreRowsCopied c.args.self.now c.args.text.now c.args.from c.in-Some.next (c.loop-end.rows + 1) c.args.lines.now.items all =
    changed-more c.args.self.now c.args.form.now c.args.text.now c.args.from c.loop-end.end c.in-Some.next c.loop-end.rows c.deref.result.now c.args.lines.now.items (lines ++ take c.loop-end.place c.loop-end.block) all
    c.loop-end.invariant.copied c.rows_return.ensures c.requires.form c.deref.ensures.value c.in-Some.ensures.some c.in-Some.ensures.after c.in-Some.ensures.within
    (row-behind c.args.text.now c.loop-end.end c.deref.result.now c.args.self.now.separator c.args.self.now.quote_char c.args.form.now lines _ _ c.in-Some.next c.in-Some.ensures.put) in
    let now = c.extend_from_slice.new.self.items in
    let kept : AreRowsCopied c.args.self.now c.args.text.now c.args.from c.in-Some.next (c.loop-end.rows + 1) c.args.lines.now.items now =
    subst (AreRowsCopied c.args.self.now c.args.text.now c.args.from c.in-Some.next (c.loop-end.rows + 1) c.args.lines.now.items)
    (sym (added (is_ok c.extend_from_slice.result) lines now (take c.in-Some.behind c.put_row.new.out) c.if-is_err.ensures.negation c.extend_from_slice.ensures.items)) copied in
    record {
      few = omega (arith, c.loop-end.invariant.few, c.in-Some.ensures.after);
      room = omega arith;
      copied = subst (AreRowsCopied c.args.self.now c.args.text.now c.args.from c.in-Some.next (c.loop-end.rows + 1) c.args.lines.now.items) (sym (append-nil now)) kept;
      kept = kept;
    }
