use Rattle.std.proofs.Common.{◌≡◌, ◌+◌, ◌-◌, ◌≤◌, ◌++◌, length, length-append, take, drop, sym, ◌∙◌, ap, append_assoc, arith}
use Rattle.std.proofs.lemmas.List.{length-take-le}
use Rattle.pl_write.specs.Options.{cell_options}
use Rattle.pl_write.specs.Strips.{strip_lines}
use Rattle.pl_write.proofs.StripLaws.{HasRows-within}
use Rattle.pl_write.proofs.WriteLaws.{strip_lines-step}
use Rattle.pl_write.proofs.row_printer.append_strips.Goals as goal

pub append_rows-requires : goal.append_rows-requires
append_rows-requires c =
    let row = c.loop-row.row in
    let count = c.line_count-count.result in
    let end = c.args.end in
    let long : length (take count c.loop-row.lines) ≡ count = length-take-le count c.loop-row.lines c.line_count-count.ensures.lines in
    let inside : row + length (take count c.loop-row.lines) ≤ end = omega (arith, c.line_count-count.ensures.left, c.loop-row-test.true, long) in
    HasRows-within (cell_options c.args.options.now) c.args.first end row (row + length (take count c.loop-row.lines)) c.args.strips.now c.requires.rows c.loop-row.invariant.up inside

pub loop-row-preserved : goal.loop-row-preserved
loop-row-preserved c =
    let o = cell_options c.args.options.now in
    let strips = c.args.strips.now in
    let row = c.loop-row.row in
    let count = c.line_count-count.result in
    let end = c.args.end in
    let block = c.loop-row.block in
    let part = strip_lines o strips row count in
    let left = strip_lines o strips (row + count) (end - (row + count)) in
    let long : length (take count c.loop-row.lines) ≡ count = length-take-le count c.loop-row.lines c.line_count-count.ensures.lines in
    let inside : row + count ≤ end = omega (arith, c.line_count-count.ensures.left, c.loop-row-test.true) in
    let put : c.append_rows.new.block ≡ block ++ part = c.in_ok-append_rows.ensures ∙ ap (λ n. block ++ strip_lines o strips row n) long in
    record {
      lines = omega (arith, length-append c.append_rows.new.lines (drop count c.loop-row.lines), c.append_rows.auto.lines, long, c.line_count-count.ensures.some);
      up = omega (arith, c.loop-row.invariant.up);
      text = ap (λ b. b ++ left) put ∙ append_assoc block part left ∙ ap (λ l. block ++ l) (sym (strip_lines-step o strips row count end inside)) ∙ c.loop-row.invariant.text;
    }
