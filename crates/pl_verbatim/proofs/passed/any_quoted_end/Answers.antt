use Rattle.std.proofs.Common.{arith}
use Rattle.pl_verbatim.proofs.PassedLaws.{IsAny}
use Rattle.pl_verbatim.proofs.TextInnerLaws.{IsNextQuote, part_read, quote_read, text_read}
use Rattle.pl_verbatim.proofs.passed.any_quoted_end.Goals as goal

pub loop-from-preserved : goal.loop-from-preserved
loop-from-preserved c =
    let text = c.args.text.now in
    let from = c.loop-from.from in
    let count = c.in_ok-count.count in
    let inside = c.loop-from.invariant.within in
    let found : IsNextQuote c.args.quote text from count = c.in_ok-count.ensures in
    let has = part_read c.args.quote text from count inside found IsAny (λ xs ys first second. tt) c.args.at c.loop-from.invariant.behind c.loop-from.invariant.read tt in
    record {
      behind = omega (arith, c.loop-from.invariant.behind);
      within = omega (arith, c.if-end-text.false);
      read = quote_read c.args.quote text from count inside found IsAny (λ xs ys first second. tt) c.args.at c.loop-from.invariant.behind tt has c.if-end-text.false c.if-text-end.false;
    }

pub returns-then-end-text-clause-text : goal.returns-then-end-text-clause-text
returns-then-end-text-clause-text c =
    let text = c.args.text.now in
    let from = c.loop-from.from in
    let count = c.in_ok-count.count in
    let inside = c.loop-from.invariant.within in
    let found : IsNextQuote c.args.quote text from count = c.in_ok-count.ensures in
    let has = part_read c.args.quote text from count inside found IsAny (λ xs ys first second. tt) c.args.at c.loop-from.invariant.behind c.loop-from.invariant.read tt in
    (has.inner, text_read c.args.quote text from count inside found IsAny (λ xs ys first second. tt) c.args.at c.loop-from.invariant.behind c.requires.quote has)
