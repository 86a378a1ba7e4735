use Rattle.std.proofs.Common.{◌≡◌, ℕ, List, ◌+◌, ◌-◌, [], ◌++◌, take, drop, sym, ◌∙◌, ap, subst, arith}
use Rattle.std.specs.Io.KnownBytes.{Appends}
use Rattle.pl_write.proofs.WriteLaws.{IsWriting-prefix, IsWriting-more, IsWriting-flushed, IsWriting-part}
use Rattle.pl_row_numbers.specs.Numbered.{numbered, stand_behind}
use Rattle.pl_row_numbers.proofs.NumberedLaws.{numbered-cut, stand-cut}
use Rattle.pl_row_numbers.proofs.writing.write_text.Goals as goal

pub loop-from-preserved : goal.loop-from-preserved
loop-from-preserved g c =
    let form = c.args.form in
    let text = c.args.text.now in
    let from = c.loop-from.from in
    let now = c.loop-from.now in
    let inv = c.loop-from.invariant in
    let count = c.min.result in
    let same : from + count - from ≡ count = omega arith in
    let piece = take count (drop from text) in
    let behind = c.put_numbered-len.result.1 in
    let stands : behind ≡ stand_behind now piece = c.put_numbered-len.ensures.stand ∙ ap (λ k. stand_behind now (take k (drop from text))) same in
    let put : take c.put_numbered-len.result.0 c.put_numbered-len.new.to ≡ numbered form now piece = c.put_numbered-len.ensures.text ∙ ap (λ k. numbered form now (take k (drop from text))) same in
    let old = g.Si.Sink.received c.args.sink.now in
    let here = g.Si.Sink.received c.loop-from.sink in
    let next = g.Si.Sink.received c.write_all.new.sink in
    let all = numbered form c.args.stand text in
    let after = numbered form behind (drop (from + count) text) in
    let step : numbered form now (drop from text) ≡ numbered form now piece ++ after =
    numbered-cut form now text from count ∙ ap (λ s. numbered form now piece ++ numbered form s (drop (from + count) text)) (sym stands) in
    let more = IsWriting-more old here [] (numbered form now piece) (numbered form now (drop from text)) after all inv.writing step in
    record {
      inside = omega (arith, c.min.ensures, c.loop-from-test.true);
      stand = stand-cut c.args.stand now text from count inv.stand ∙ sym stands;
      writing = IsWriting-flushed old here next (numbered form now piece) after all more (subst (λ (l : List ℕ). Appends here next l) put c.in-Ok.ensures.ok);
      later = omega (arith, c.in-Ok.ensures.later, inv.later);
      later_wants = omega (arith, c.in-Ok.ensures.later_wants, inv.later_wants);
    }

pub returns-in-Err-clause-prefix : goal.returns-in-Err-clause-prefix
returns-in-Err-clause-prefix g c =
    let form = c.args.form in
    let text = c.args.text.now in
    let from = c.loop-from.from in
    let now = c.loop-from.now in
    let count = c.min.result in
    let same : from + count - from ≡ count = omega arith in
    let piece = take count (drop from text) in
    let put : take c.put_numbered-len.result.0 c.put_numbered-len.new.to ≡ numbered form now piece = c.put_numbered-len.ensures.text ∙ ap (λ k. numbered form now (take k (drop from text))) same in
    let old = g.Si.Sink.received c.args.sink.now in
    let here = g.Si.Sink.received c.loop-from.sink in
    let next = g.Si.Sink.received c.write_all.new.sink in
    let all = numbered form c.args.stand text in
    let after = numbered form (stand_behind now piece) (drop (from + count) text) in
    let more = IsWriting-more old here [] (numbered form now piece) (numbered form now (drop from text)) after all c.loop-from.invariant.writing (numbered-cut form now text from count) in
    let n = c.in-Err.ensures.prefix.0 in
    IsWriting-part old here next (numbered form now piece) after all n more (subst (λ (l : List ℕ). Appends here next (take n l)) put c.in-Err.ensures.prefix.1)

pub returns-clause-prefix : goal.returns-clause-prefix
returns-clause-prefix g c = IsWriting-prefix _ _ _ _ _ c.loop-from.invariant.writing
