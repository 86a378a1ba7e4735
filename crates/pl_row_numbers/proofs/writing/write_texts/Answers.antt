use Rattle.std.proofs.Common.{◌≡◌, ℕ, List, ◌+◌, [], ◌++◌, map, take, drop, sym, ◌∙◌, ap, subst, arith}
use Rattle.std.specs.Cow.{cow_slice_items}
use Rattle.std.specs.Io.KnownBytes.{Appends}
use Rattle.std.specs.List.{concat}
use Rattle.pl_write.proofs.PrintLaws.{concat-next}
use Rattle.pl_write.proofs.WriteLaws.{IsWriting-prefix, IsWriting-more, IsWriting-flushed, IsWriting-part}
use Rattle.pl_row_numbers.specs.Numbered.{numbered, stand_behind}
use Rattle.pl_row_numbers.proofs.NumberedLaws.{numbered-append}
use Rattle.pl_row_numbers.proofs.writing.write_texts.Goals as goal

pub returns-in-Err-clause-prefix : goal.returns-in-Err-clause-prefix
returns-in-Err-clause-prefix g c =
    let form = c.args.form in
    let texts = c.args.texts.now in
    let i = c.loop-text.text-index in
    let now = c.loop-text.now in
    let text = c.text-item.result in
    let piece = cow_slice_items text in
    let rest = concat (map cow_slice_items (drop (i + 1) texts)) in
    let left = concat (map cow_slice_items (drop i texts)) in
    let all = numbered form c.args.stand (concat (map cow_slice_items texts)) in
    let old = g.Si.Sink.received c.args.sink.now in
    let here = g.Si.Sink.received c.loop-text.sink in
    let next = g.Si.Sink.received c.write_text.new.sink in
    let split = concat-next cow_slice_items texts i text c.loop-text-test.true ∙ ap (λ text. cow_slice_items text ++ rest) (sym c.text-item.is) in
    let after = numbered form (stand_behind now piece) rest in
    let step = ap (numbered form now) split ∙ numbered-append form now piece rest in
    let more = IsWriting-more old here [] (numbered form now piece) (numbered form now left) after all c.loop-text.invariant.writing step in
    let n = c.write_text.ensures.prefix.0 in
    IsWriting-part old here next (numbered form now piece) after all n more (subst (λ (l : List ℕ). Appends here next (take n (numbered form now l))) c.as_slice.ensures.value c.write_text.ensures.prefix.1)

pub loop-text-preserved : goal.loop-text-preserved
loop-text-preserved g c =
    let form = c.args.form in
    let texts = c.args.texts.now in
    let i = c.loop-text.text-index in
    let now = c.loop-text.now in
    let text = c.text-item.result in
    let piece = cow_slice_items text in
    let rest = concat (map cow_slice_items (drop (i + 1) texts)) in
    let left = concat (map cow_slice_items (drop i texts)) in
    let all = numbered form c.args.stand (concat (map cow_slice_items texts)) in
    let old = g.Si.Sink.received c.args.sink.now in
    let here = g.Si.Sink.received c.loop-text.sink in
    let next = g.Si.Sink.received c.write_text.new.sink in
    let split = concat-next cow_slice_items texts i text c.loop-text-test.true ∙ ap (λ text. cow_slice_items text ++ rest) (sym c.text-item.is) in
    let behind = c.in-Ok.behind in
    let stands : behind ≡ stand_behind now piece = c.in-Ok.ensures.stand ∙ ap (stand_behind now) c.as_slice.ensures.value in
    let after = numbered form behind rest in
    let step = ap (numbered form now) split ∙ numbered-append form now piece rest ∙ ap (λ s. numbered form now piece ++ numbered form s rest) (sym stands) in
    let more = IsWriting-more old here [] (numbered form now piece) (numbered form now left) after all c.loop-text.invariant.writing step in
    record {
      writing = IsWriting-flushed old here next (numbered form now piece) after all more (subst (λ (l : List ℕ). Appends here next (numbered form now l)) c.as_slice.ensures.value c.in-Ok.ensures.text);
      later = omega (arith, c.write_text.ensures.later, c.loop-text.invariant.later);
      later_wants = omega (arith, c.write_text.ensures.later_wants, c.loop-text.invariant.later_wants);
    }

pub returns-clause-prefix : goal.returns-clause-prefix
returns-clause-prefix g c = IsWriting-prefix _ _ _ _ _ c.loop-text.invariant.writing
