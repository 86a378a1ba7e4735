use Rattle.std.proofs.Common.{◌+◌, [], ◌++◌, map, take, drop, sym, ◌∙◌, ap, subst, arith}
use Rattle.std.specs.Cow.{cow_slice_items}
use Rattle.std.specs.Io.KnownBytes.{Appends}
use Rattle.std.specs.List.{concat}
use Rattle.pl_write.proofs.PrintLaws.{concat-next}
use Rattle.pl_write.proofs.WriteLaws.{IsWriting-prefix, IsWriting-more, IsWriting-flushed, IsWriting-part}
use Rattle.pl_write.proofs.printed.write_texts.Goals as goal

pub returns-in-Err-clause-prefix : goal.returns-in-Err-clause-prefix
returns-in-Err-clause-prefix g c =
    let texts = c.args.texts.now in
    let i = c.loop-text.text-index in
    let text = c.text-item.result in
    let rest = concat (map cow_slice_items (drop (i + 1) texts)) in
    let all = concat (map cow_slice_items texts) in
    let old = g.Si.Sink.received c.args.sink.now in
    let now = g.Si.Sink.received c.loop-text.sink in
    let next = g.Si.Sink.received c.write_all.new.sink in
    let step = concat-next cow_slice_items texts i text c.loop-text-test.true ∙ ap (λ text. cow_slice_items text ++ rest) (sym c.text-item.is) in
    let more = IsWriting-more old now [] (cow_slice_items text) (concat (map cow_slice_items (drop i texts))) rest all c.loop-text.invariant.writing step in
    let n = c.write_all.ensures.prefix.0 in
    IsWriting-part old now next (cow_slice_items text) rest all n more (subst (λ l. Appends now next (take n l)) c.as_slice.ensures.value c.write_all.ensures.prefix.1)

pub loop-text-preserved : goal.loop-text-preserved
loop-text-preserved g c =
    let texts = c.args.texts.now in
    let i = c.loop-text.text-index in
    let text = c.text-item.result in
    let rest = concat (map cow_slice_items (drop (i + 1) texts)) in
    let all = concat (map cow_slice_items texts) in
    let old = g.Si.Sink.received c.args.sink.now in
    let now = g.Si.Sink.received c.loop-text.sink in
    let next = g.Si.Sink.received c.write_all.new.sink in
    let step = concat-next cow_slice_items texts i text c.loop-text-test.true ∙ ap (λ text. cow_slice_items text ++ rest) (sym c.text-item.is) in
    let more = IsWriting-more old now [] (cow_slice_items text) (concat (map cow_slice_items (drop i texts))) rest all c.loop-text.invariant.writing step in
    record {
      writing = IsWriting-flushed old now next (cow_slice_items text) rest all more (subst (λ l. Appends now next l) c.as_slice.ensures.value c.in-Ok.ensures.ok);
      later = omega (arith, c.write_all.ensures.later, c.loop-text.invariant.later);
      later_wants = omega (arith, c.write_all.ensures.later_wants, c.loop-text.invariant.later_wants);
    }

pub returns-clause-prefix : goal.returns-clause-prefix
returns-clause-prefix g c = IsWriting-prefix _ _ _ _ _ c.loop-text.invariant.writing
