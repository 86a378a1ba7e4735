use Rattle.std.proofs.Common.{◌≡◌, ℕ, List, ◌≤◌, ◌+◌, ◌-◌, ◌++◌, length, length-append, take, drop, sym, ◌∙◌, ap, subst, arith}
use Rattle.std.proofs.lemmas.List.{length-take-le}
use Rattle.std.specs.Io.KnownBytes.{Appends}
use Rattle.pl_write.specs.Options.{cell_options}
use Rattle.pl_write.specs.Strips.{strip_lines}
use Rattle.pl_write.specs.Writing.{IsWriting}
use Rattle.pl_write.proofs.StripLaws.{HasRows-within}
use Rattle.pl_write.proofs.WriteLaws.{IsWriting-prefix, IsWriting-more, IsWriting-flushed, IsWriting-part, strip_lines-step, strip_lines-none}
use Rattle.pl_write.proofs.writer.write_strips.Goals as goal

pub append_rows-requires : goal.append_rows-requires
append_rows-requires g c =
    let row = c.loop-row.row in
    let count = c.line_count-count.result in
    let end = c.args.end in
    let long : length (take count c.loop-row.lines) ≡ count = length-take-le count c.loop-row.lines c.line_count-count.ensures.lines in
    let inside : row + length (take count c.loop-row.lines) ≤ end = omega (arith, c.line_count-count.ensures.left, c.loop-row-test.true, long) in
    HasRows-within (cell_options c.args.options.now) c.args.first end row (row + length (take count c.loop-row.lines)) c.args.strips.now c.requires.rows c.loop-row.invariant.up inside

pub returns-in-Err-clause-prefix : goal.returns-in-Err-clause-prefix
returns-in-Err-clause-prefix g c = IsWriting-prefix _ _ _ _ _ c.loop-row.invariant.writing

pub loop-row-preserved-in-Ok-write_all : goal.loop-row-preserved-in-Ok-write_all
loop-row-preserved-in-Ok-write_all g c =
    let o = cell_options c.args.options.now in
    let strips = c.args.strips.now in
    let first = c.args.first in
    let end = c.args.end in
    let text = c.args.block.now ++ strip_lines o strips first (end - first) in
    let row = c.loop-row.row in
    let count = c.line_count-count.result in
    let old = g.Si.Sink.received c.args.sink.now in
    let now = g.Si.Sink.received c.loop-row.sink in
    let part = strip_lines o strips row count in
    let block = c.loop-row.block ++ part in
    let left = strip_lines o strips (row + count) (end - (row + count)) in
    let long : length (take count c.loop-row.lines) ≡ count = length-take-le count c.loop-row.lines c.line_count-count.ensures.lines in
    let inside : row + count ≤ end = omega (arith, c.line_count-count.ensures.left, c.loop-row-test.true) in
    let put : c.append_rows.new.block ≡ block = c.in-Ok.ensures ∙ ap (λ n. c.loop-row.block ++ strip_lines o strips row n) long in
    let more = IsWriting-more old now c.loop-row.block part (strip_lines o strips row (end - row)) left text c.loop-row.invariant.writing (strip_lines-step o strips row count end inside) in
    let next = g.Si.Sink.received c.write_all.new.sink in
    let came = subst (λ l. Appends now next l) (c.as_slice.ensures ∙ put) c.in-Ok-write_all.ensures.ok in
    record {
      lines = omega (arith, length-append c.append_rows.new.lines (drop count c.loop-row.lines), c.append_rows.auto.lines, long, c.line_count-count.ensures.some);
      up = omega (arith, c.loop-row.invariant.up);
      writing = rw c.clear.ensures (IsWriting-flushed old now next block left text more came);
      later = omega (arith, c.in-Ok-write_all.ensures.later, c.loop-row.invariant.later);
      later_wants = omega (arith, c.in-Ok-write_all.ensures.later_wants, c.loop-row.invariant.later_wants);
    }

pub returns-in-Err-write_all-clause-prefix : goal.returns-in-Err-write_all-clause-prefix
returns-in-Err-write_all-clause-prefix g c =
    let o = cell_options c.args.options.now in
    let strips = c.args.strips.now in
    let first = c.args.first in
    let end = c.args.end in
    let text = c.args.block.now ++ strip_lines o strips first (end - first) in
    let row = c.loop-row.row in
    let count = c.line_count-count.result in
    let old = g.Si.Sink.received c.args.sink.now in
    let now = g.Si.Sink.received c.loop-row.sink in
    let part = strip_lines o strips row count in
    let block = c.loop-row.block ++ part in
    let left = strip_lines o strips (row + count) (end - (row + count)) in
    let long : length (take count c.loop-row.lines) ≡ count = length-take-le count c.loop-row.lines c.line_count-count.ensures.lines in
    let inside : row + count ≤ end = omega (arith, c.line_count-count.ensures.left, c.loop-row-test.true) in
    let put : c.append_rows.new.block ≡ block = c.in-Ok.ensures ∙ ap (λ n. c.loop-row.block ++ strip_lines o strips row n) long in
    let more = IsWriting-more old now c.loop-row.block part (strip_lines o strips row (end - row)) left text c.loop-row.invariant.writing (strip_lines-step o strips row count end inside) in
    let next = g.Si.Sink.received c.write_all.new.sink in
    let n = c.in-Err-write_all.ensures.prefix.0 in
    let came = subst (λ l. Appends now next (take n l)) (c.as_slice.ensures ∙ put) c.in-Err-write_all.ensures.prefix.1 in
    IsWriting-part old now next block left text n more came

pub loop-row-preserved : goal.loop-row-preserved
loop-row-preserved g c =
    let o = cell_options c.args.options.now in
    let strips = c.args.strips.now in
    let first = c.args.first in
    let end = c.args.end in
    let text = c.args.block.now ++ strip_lines o strips first (end - first) in
    let row = c.loop-row.row in
    let count = c.line_count-count.result in
    let old = g.Si.Sink.received c.args.sink.now in
    let now = g.Si.Sink.received c.loop-row.sink in
    let part = strip_lines o strips row count in
    let block = c.loop-row.block ++ part in
    let left = strip_lines o strips (row + count) (end - (row + count)) in
    let long : length (take count c.loop-row.lines) ≡ count = length-take-le count c.loop-row.lines c.line_count-count.ensures.lines in
    let inside : row + count ≤ end = omega (arith, c.line_count-count.ensures.left, c.loop-row-test.true) in
    let put : c.append_rows.new.block ≡ block = c.in-Ok.ensures ∙ ap (λ n. c.loop-row.block ++ strip_lines o strips row n) long in
    let more = IsWriting-more old now c.loop-row.block part (strip_lines o strips row (end - row)) left text c.loop-row.invariant.writing (strip_lines-step o strips row count end inside) in
    record {
      lines = omega (arith, length-append c.append_rows.new.lines (drop count c.loop-row.lines), c.append_rows.auto.lines, long, c.line_count-count.ensures.some);
      up = omega (arith, c.loop-row.invariant.up);
      writing = subst (λ (block : List ℕ). IsWriting old now block left text) (sym put) more;
      later = c.loop-row.invariant.later;
      later_wants = c.loop-row.invariant.later_wants;
    }

pub returns-clause-prefix : goal.returns-clause-prefix
returns-clause-prefix g c = IsWriting-prefix _ _ _ _ _ c.loop-row.invariant.writing

pub returns-clause-text : goal.returns-clause-text
returns-clause-text g c =
    let o = cell_options c.args.options.now in
    let strips = c.args.strips.now in
    let first = c.args.first in
    let end = c.args.end in
    let text = c.args.block.now ++ strip_lines o strips first (end - first) in
    let row = c.loop-row.row in
    let past : end ≤ row = omega (arith, c.loop-row-test.false) in
    subst (λ (left : List ℕ). IsWriting (g.Si.Sink.received c.args.sink.now) (g.Si.Sink.received c.loop-row.sink) c.loop-row.block left text) (strip_lines-none o strips row end past) c.loop-row.invariant.writing
