use Rattle.std.proofs.Common.{◌+◌, [], ◌++◌, take, drop, sym, ◌∙◌, ap, subst, arith}
use Rattle.std.specs.Io.KnownBytes.{Appends}
use Rattle.pl_write.specs.Printing.{ShareValue, texts_of}
use Rattle.pl_write.proofs.PrintLaws.{texts-next}
use Rattle.pl_write.proofs.WriteLaws.{IsWriting-prefix, IsWriting-more, IsWriting-flushed, IsWriting-part}
use Rattle.pl_write.proofs.printing.write_each.Goals as goal

pub returns-in-Err-clause-prefix : goal.returns-in-Err-clause-prefix
returns-in-Err-clause-prefix g c =
    let shares = c.args.shares.now in
    let i = c.loop-share.share-index in
    let share = c.share-item.result in
    let rest = texts_of (drop (i + 1) shares) in
    let old = g.Si.Sink.received c.args.sink.now in
    let now = g.Si.Sink.received c.loop-share.sink in
    let next = g.Si.Sink.received c.write_all.new.sink in
    let step = texts-next shares i share c.loop-share-test.true ∙ ap (λ (s : ShareValue). s.text ++ rest) (sym c.share-item.is) in
    let more = IsWriting-more old now [] share.text (texts_of (drop i shares)) rest (texts_of shares) c.loop-share.invariant.writing step in
    let n = c.write_all.ensures.prefix.0 in
    IsWriting-part old now next share.text rest (texts_of shares) n more (subst (λ l. Appends now next (take n l)) c.as_slice.ensures c.write_all.ensures.prefix.1)

pub loop-share-preserved : goal.loop-share-preserved
loop-share-preserved g c =
    let shares = c.args.shares.now in
    let i = c.loop-share.share-index in
    let share = c.share-item.result in
    let rest = texts_of (drop (i + 1) shares) in
    let old = g.Si.Sink.received c.args.sink.now in
    let now = g.Si.Sink.received c.loop-share.sink in
    let next = g.Si.Sink.received c.write_all.new.sink in
    let step = texts-next shares i share c.loop-share-test.true ∙ ap (λ (s : ShareValue). s.text ++ rest) (sym c.share-item.is) in
    let more = IsWriting-more old now [] share.text (texts_of (drop i shares)) rest (texts_of shares) c.loop-share.invariant.writing step in
    record {
      writing = IsWriting-flushed old now next share.text rest (texts_of shares) more (subst (λ l. Appends now next l) c.as_slice.ensures c.in-Ok.ensures.ok);
      later = omega (arith, c.write_all.ensures.later, c.loop-share.invariant.later);
      later_wants = omega (arith, c.write_all.ensures.later_wants, c.loop-share.invariant.later_wants);
    }

pub returns-clause-prefix : goal.returns-clause-prefix
returns-clause-prefix g c = IsWriting-prefix _ _ _ _ _ c.loop-share.invariant.writing
