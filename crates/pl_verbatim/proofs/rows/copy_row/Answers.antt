-- Each cell is one more of the row, and the last ends it, where what is left is appended.
use Rattle.std.proofs.Common.{◌<◌, length, sym, arith}
use Rattle.std.specs.Prelude.{slice_range}
use Rattle.std.specs.Result.{is_ok}
use Rattle.std.proofs.lemmas.Bool.Decides.{nat_tests}
use Rattle.pl_verbatim.specs.declared.kinds.Kind.TheVariants as kind
use Rattle.pl_verbatim.proofs.RowCopyLaws.{added, copied-cell, copied-row}
use Rattle.pl_verbatim.proofs.rows.copy_row.Goals as goal

pub loop-index-preserved : goal.loop-index-preserved
loop-index-preserved c =
    let row = c.loop-index in
    copied-cell c.args.text.now c.args.start c.args.kinds.now c.args.separator c.args.quote row.index row.from row.at c.copy_cell.new.from c.in_ok-at.at kind.Text c.args.lines.now.items
    row.lines.items c.copy_cell.new.lines.items row.invariant (omega arith) c.copy_cell.ensures.grown c.in_ok-at.ensures.copied

pub returns-then-is_ok-clause-copied : goal.returns-then-is_ok-clause-copied
returns-then-is_ok-clause-copied c =
    let row = c.loop-index in
    let lines = c.copy_cell-2.new.lines.items in
    let left = slice_range c.args.text.now c.copy_cell-2.new.from c.in_ok-end.end in
    let some : 0 < length c.args.kinds.now = grind (arith, nat_tests, c.if-is_empty.ensures) in
    copied-row c.args.text.now c.args.start c.args.kinds.now c.args.separator c.args.quote row.index row.from row.at c.copy_cell-2.new.from c.in_ok-end.end kind.Text c.args.lines.now.items row.lines.items lines
    c.extend_from_slice.new.self.items row.invariant (omega arith) some c.in_ok-end.ensures.copied
    (added (is_ok c.extend_from_slice.result) lines c.extend_from_slice.new.self.items left (sym c.if-is_ok.ensures.value) c.extend_from_slice.ensures.items)
