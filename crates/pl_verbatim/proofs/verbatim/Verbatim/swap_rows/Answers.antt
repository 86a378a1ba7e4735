-- Each row is one more of those that were copied.
use Rattle.std.proofs.Common.{◌+◌, ◌<◌, ◌++◌, take, refl, sym, subst, arith}
use Rattle.std.specs.Prelude.{slice_range}
use Rattle.memchr.specs.Find.{Nowhere, Passes, is_byte}
use Rattle.pl_verbatim.specs.Swaps.{swapped}
use Rattle.pl_verbatim.specs.Verbatim.{AreRowsCopied}
use Rattle.pl_verbatim.proofs.FrontLaws.{changed-more, copied-none, row-behind}
use Rattle.pl_verbatim.proofs.SwapLaws.{swap-behind, swapped-nothing}
use Rattle.pl_verbatim.proofs.verbatim.Verbatim.swap_rows.Goals as goal
use Rattle.pl_verbatim.proofs.verbatim.Verbatim.swap_rows.Goals.{then-other-now, else-other-now}

pub returns-then-not-append_waiting : goal.returns-then-not-append_waiting
returns-then-not-append_waiting c =
    subst (AreRowsCopied c.args.self.now c.args.text.now c.args.from c.args.from 0 c.args.lines.now.items) (sym (c.if-not-append_waiting.ensures.same refl))
    (copied-none c.args.self.now c.args.text.now c.args.from c.args.lines.now.items c.requires.inside)

pub loop-now-init : goal.loop-now-init
loop-now-init c =
    let before = c.args.lines.now.items in
    let first = c.swapped_rows-first in
    let lines = c.append_waiting.new.lines.items in
    let copied =
    swap-behind c.args.self.now c.args.text.now c.args.from first.result.end first.result.rows (swapped c.args.self.now.separator c.args.form.now.separator (slice_range c.args.text.now c.args.from first.result.end)) before lines
    first.ensures.copied c.if-not-append_waiting.ensures.appended in
    record {
      few = first.ensures.few;
      ordered = omega arith;
      room = omega arith;
      none = λ k low high. c.first_of-other.ensures.none k (omega (arith, low, first.ensures.copied.after)) high;
      copied = subst (AreRowsCopied c.args.self.now c.args.text.now c.args.from first.result.end first.result.rows before) (sym (swapped-nothing c.args.self.now.separator c.args.form.now.separator c.args.text.now first.result.end lines)) copied;
      kept = copied;
    }

pub loop-now-preserved-then-now-ge-FULL : goal.loop-now-preserved-then-now-ge-FULL
loop-now-preserved-then-now-ge-FULL c =
    let lines = c.loop-now.lines.items in
    let next = c.in-Some.next in
    let more = c.append_waiting-then-now-ge-FULL.new.lines.items in
    let none : Nowhere (Passes (is_byte c.args.form.now.separator) c.args.text.now) next.at c.if-other-now.other = elim c.if-other-now.branch [
      | then-other-now w ↦ λ k low high. w.first_of-other-then-other-now.ensures.none k (omega (arith, low, c.in-Some.ensures.after)) (subst (λ n. k < n) w.other-is high)
      | else-other-now w ↦ λ k low high. c.loop-now.invariant.none k (omega (arith, low, c.in-Some.ensures.after)) (subst (λ n. k < n) w.other-is high)
    ] in
    let copied =
    changed-more c.args.self.now c.args.form.now c.args.text.now c.args.from c.loop-now.now.at next.at c.loop-now.rows c.deref.result.now c.args.lines.now.items _
    (lines ++ (take next.place c.swap_row.new.out ++ swapped c.args.self.now.separator c.args.form.now.separator (slice_range c.args.text.now next.from next.at))) c.loop-now.invariant.copied c.rows_return.ensures
    c.requires.form c.deref.ensures.value c.in-Some.ensures.some c.in-Some.ensures.after c.in-Some.ensures.within
    (row-behind c.args.text.now c.loop-now.now.at c.deref.result.now c.args.self.now.separator c.args.self.now.quote_char c.args.form.now lines _ _ next.at c.in-Some.ensures.put) in
    let kept = subst (AreRowsCopied c.args.self.now c.args.text.now c.args.from next.at (c.loop-now.rows + 1) c.args.lines.now.items) (sym c.if-not-append_waiting-2.ensures.appended) copied in
    record {
      few = omega (arith, c.loop-now.invariant.few, c.in-Some.ensures.after);
      ordered = omega arith;
      room = omega arith;
      none = none;
      copied = subst (AreRowsCopied c.args.self.now c.args.text.now c.args.from next.at (c.loop-now.rows + 1) c.args.lines.now.items) (sym (swapped-nothing c.args.self.now.separator c.args.form.now.separator c.args.text.now next.at more)) kept;
      kept = kept;
    }

pub loop-now-preserved : goal.loop-now-preserved
loop-now-preserved c =
    let lines = c.loop-now.lines.items in
    let next = c.in-Some.next in
    let none : Nowhere (Passes (is_byte c.args.form.now.separator) c.args.text.now) next.at c.if-other-now.other = elim c.if-other-now.branch [
      | then-other-now w ↦ λ k low high. w.first_of-other-then-other-now.ensures.none k (omega (arith, low, c.in-Some.ensures.after)) (subst (λ n. k < n) w.other-is high)
      | else-other-now w ↦ λ k low high. c.loop-now.invariant.none k (omega (arith, low, c.in-Some.ensures.after)) (subst (λ n. k < n) w.other-is high)
    ] in
    record {
      few = omega (arith, c.loop-now.invariant.few, c.in-Some.ensures.after);
      ordered = c.in-Some.ensures.ordered;
      room = c.in-Some.ensures.room;
      none = none;
      copied =
          changed-more c.args.self.now c.args.form.now c.args.text.now c.args.from c.loop-now.now.at next.at c.loop-now.rows c.deref.result.now c.args.lines.now.items _
          (lines ++ (take next.place c.swap_row.new.out ++ swapped c.args.self.now.separator c.args.form.now.separator (slice_range c.args.text.now next.from next.at))) c.loop-now.invariant.copied c.rows_return.ensures
          c.requires.form c.deref.ensures.value c.in-Some.ensures.some c.in-Some.ensures.after c.in-Some.ensures.within
          (row-behind c.args.text.now c.loop-now.now.at c.deref.result.now c.args.self.now.separator c.args.self.now.quote_char c.args.form.now lines _ _ next.at c.in-Some.ensures.put);
      kept = c.loop-now.invariant.kept;
    }
