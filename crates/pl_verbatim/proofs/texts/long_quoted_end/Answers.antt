use Rattle.std.proofs.Common.{◌≡◌, ◌+◌, true, ◌∙◌, sym, arith}
use Rattle.std.specs.List.{slice_range}
use Rattle.std.specs.Str.{IsUtf8, is_utf8}
use Rattle.std.proofs.lemmas.Str.{IsUtf8-append, IsUtf8-from_is_utf8, is_utf8-from_IsUtf8}
use Rattle.pl_verbatim.proofs.TextInnerLaws.{IsNextQuote, part_read, quote_read, quote_utf8, text_read}
use Rattle.pl_verbatim.proofs.texts.long_quoted_end.Goals as goal

pub loop-from-preserved : goal.loop-from-preserved
loop-from-preserved c =
    let text = c.args.text.now in
    let from = c.loop-from.from in
    let count = c.in_ok-count.count in
    let inside = c.loop-from.invariant.within in
    let found : IsNextQuote c.args.quote text from count = c.in_ok-count.ensures in
    let utf8 : is_utf8 (slice_range text from (from + count)) ≡ true = sym c.validate_utf8.ensures ∙ c.if-not-validate_utf8.false in
    let has = part_read c.args.quote text from count inside found IsUtf8 IsUtf8-append c.args.at c.loop-from.invariant.behind c.loop-from.invariant.read (IsUtf8-from_is_utf8 _ utf8) in
    record {
      behind = omega (arith, c.loop-from.invariant.behind);
      within = omega (arith, c.if-end-text.false);
      read = quote_read c.args.quote text from count inside found IsUtf8 IsUtf8-append c.args.at c.loop-from.invariant.behind (quote_utf8 c.args.quote c.requires.ascii) has c.if-end-text.false c.if-text-end.false;
    }

pub returns-then-end-text-clause-text : goal.returns-then-end-text-clause-text
returns-then-end-text-clause-text c =
    let text = c.args.text.now in
    let from = c.loop-from.from in
    let count = c.in_ok-count.count in
    let inside = c.loop-from.invariant.within in
    let found : IsNextQuote c.args.quote text from count = c.in_ok-count.ensures in
    let utf8 : is_utf8 (slice_range text from (from + count)) ≡ true = sym c.validate_utf8.ensures ∙ c.if-not-validate_utf8.false in
    let has = part_read c.args.quote text from count inside found IsUtf8 IsUtf8-append c.args.at c.loop-from.invariant.behind c.loop-from.invariant.read (IsUtf8-from_is_utf8 _ utf8) in
    record {
      inner = has.inner;
      utf8 = is_utf8-from_IsUtf8 has.inner has.is;
      text_is = text_read c.args.quote text from count inside found IsUtf8 IsUtf8-append c.args.at c.loop-from.invariant.behind c.requires.quote has;
    }
