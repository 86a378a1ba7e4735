use Rattle.std.proofs.Common.{◌≡◌, ℕ, List, ◌≤◌, ◌+◌, ◌-◌, ◌++◌, take, sym, ◌∙◌, ap, subst, arith}
use Rattle.std.proofs.lemmas.Result.{on_ok_weaker}
use Rattle.std.specs.Io.KnownBytes.{Appends}
use Rattle.pl_text.specs.FrameText.{row_lines}
use Rattle.pl_write.specs.Options.{cell_options}
use Rattle.pl_write.specs.Writing.{IsWriting}
use Rattle.pl_write.proofs.WriteLaws.{HaveRows-height, IsWriting-then, IsWriting-failed, IsWriting-part, IsWriting-all, row_lines-step, row_lines-none}
use Rattle.pl_write.proofs.writer.write_in_blocks.Goals as goal

pub write_copied-requires-clause-columns : goal.write_copied-requires-clause-columns
write_copied-requires-clause-columns g c =
    HaveRows-height (c.loop-row.row + c.rows_at_once-count.result) c.args.height c.args.columns.now c.requires (omega (arith, c.rows_at_once-count.ensures.left, c.loop-row-test.true))

pub loop-row-preserved : goal.loop-row-preserved
loop-row-preserved g c =
    let o = cell_options c.args.options.now in
    let columns = c.args.columns.now in
    let height = c.args.height in
    let text = c.args.block ++ row_lines o columns 0 height in
    let row = c.loop-row.row in
    let old = g.Si.Sink.received c.args.sink.now in
    let now = g.Si.Sink.received c.loop-row.sink in
    let count = c.rows_at_once-count.result in
    let next = g.Si.Sink.received c.write_copied.new.sink in
    let some : row + count - row ≡ count = omega arith in
    let inside : row + count ≤ height = omega (arith, c.rows_at_once-count.ensures.left, c.loop-row-test.true) in
    let part = row_lines o columns row (row + count - row) in
    let left = row_lines o columns (row + count) (height - (row + count)) in
    let step = row_lines-step o columns row count height inside ∙ ap (λ n. row_lines o columns row n ++ left) (sym some) in
    record {
      lines = omega (arith, c.write_copied.auto.lines, c.loop-row.invariant.lines);
      writing = IsWriting-then old now next c.loop-row.block part (row_lines o columns row (height - row)) left c.write_copied.new.block text c.loop-row.invariant.writing step c.in-Ok-write_copied.ensures.text;
      later = omega (arith, c.in-Ok-write_copied.ensures.later, c.loop-row.invariant.later);
      later_wants = omega (arith, c.in-Ok-write_copied.ensures.later_wants, c.loop-row.invariant.later_wants);
    }

pub returns-in-Err-clause-prefix : goal.returns-in-Err-clause-prefix
returns-in-Err-clause-prefix g c =
    let o = cell_options c.args.options.now in
    let columns = c.args.columns.now in
    let height = c.args.height in
    let text = c.args.block ++ row_lines o columns 0 height in
    let row = c.loop-row.row in
    let old = g.Si.Sink.received c.args.sink.now in
    let now = g.Si.Sink.received c.loop-row.sink in
    let count = c.rows_at_once-count.result in
    let next = g.Si.Sink.received c.write_copied.new.sink in
    let some : row + count - row ≡ count = omega arith in
    let inside : row + count ≤ height = omega (arith, c.rows_at_once-count.ensures.left, c.loop-row-test.true) in
    let part = row_lines o columns row (row + count - row) in
    let left = row_lines o columns (row + count) (height - (row + count)) in
    let step = row_lines-step o columns row count height inside ∙ ap (λ n. row_lines o columns row n ++ left) (sym some) in
    IsWriting-failed old now next c.loop-row.block part (row_lines o columns row (height - row)) left text c.loop-row.invariant.writing step c.write_copied.ensures.prefix

pub returns-clause-prefix : goal.returns-clause-prefix
returns-clause-prefix g c =
    let o = cell_options c.args.options.now in
    let columns = c.args.columns.now in
    let height = c.args.height in
    let text = c.args.block ++ row_lines o columns 0 height in
    let row = c.loop-row.row in
    let old = g.Si.Sink.received c.args.sink.now in
    let now = g.Si.Sink.received c.loop-row.sink in
    let next = g.Si.Sink.received c.write_all.new.sink in
    let n = c.write_all.ensures.prefix.0 in
    let came = subst (λ l. Appends now next (take n l)) c.as_slice.ensures c.write_all.ensures.prefix.1 in
    IsWriting-part old now next c.loop-row.block (row_lines o columns row (height - row)) text n c.loop-row.invariant.writing came

pub returns-clause-text : goal.returns-clause-text
returns-clause-text g c =
    let o = cell_options c.args.options.now in
    let columns = c.args.columns.now in
    let height = c.args.height in
    let text = c.args.block ++ row_lines o columns 0 height in
    let row = c.loop-row.row in
    let old = g.Si.Sink.received c.args.sink.now in
    let now = g.Si.Sink.received c.loop-row.sink in
    let next = g.Si.Sink.received c.write_all.new.sink in
    let past : height ≤ row = omega (arith, c.loop-row-test.false) in
    let writing = subst (λ (left : List ℕ). IsWriting old now c.loop-row.block left text) (row_lines-none o columns row height past) c.loop-row.invariant.writing in
    on_ok_weaker c.write_all.result
    (λ appended. IsWriting-all old now next c.loop-row.block text writing (subst (λ l. Appends now next l) c.as_slice.ensures appended))
    c.write_all.ensures.ok
