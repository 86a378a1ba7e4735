use Rattle.std.proofs.Common.{◌≡◌, ◌+◌, ◌-◌, ◌≤◌, ◌++◌, sym, ◌∙◌, ap, append_assoc, arith}
use Rattle.pl_text.specs.FrameText.{row_lines}
use Rattle.pl_write.specs.Options.{cell_options}
use Rattle.pl_write.proofs.StripLaws.{HaveRows-fewer}
use Rattle.pl_write.proofs.WriteLaws.{row_lines-step}
use Rattle.pl_write.proofs.row_printer.append_between.Goals as goal

pub append_copied-requires-clause-columns : goal.append_copied-requires-clause-columns
append_copied-requires-clause-columns c =
    HaveRows-fewer (c.loop-row.row + c.rows_at_once-count.result) c.args.end c.args.columns.now c.requires.columns (omega (arith, c.rows_at_once-count.ensures.left, c.loop-row-test.true))

pub loop-row-preserved : goal.loop-row-preserved
loop-row-preserved c =
    let o = cell_options c.args.options.now in
    let columns = c.args.columns.now in
    let row = c.loop-row.row in
    let count = c.rows_at_once-count.result in
    let end = c.args.end in
    let block = c.loop-row.block in
    let part = row_lines o columns row count in
    let left = row_lines o columns (row + count) (end - (row + count)) in
    let some : row + count - row ≡ count = omega arith in
    let inside : row + count ≤ end = omega (arith, c.rows_at_once-count.ensures.left, c.loop-row-test.true) in
    let put : c.append_copied.new.block ≡ block ++ part = c.in_ok-append_copied.ensures ∙ ap (λ n. block ++ row_lines o columns row n) some in
    record {
      lines = omega (arith, c.append_copied.auto.lines, c.loop-row.invariant.lines);
      text = ap (λ b. b ++ left) put ∙ append_assoc block part left ∙ ap (λ l. block ++ l) (sym (row_lines-step o columns row count end inside)) ∙ c.loop-row.invariant.text;
    }
