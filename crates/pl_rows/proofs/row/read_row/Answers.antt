use Rattle.std.proofs.Common.{◌≡◌, ◌<◌, ◌≤◌, true, ◌∷◌, [], length, refl, sym, ◌∙◌, arith}
use Rattle.std.proofs.lemmas.Bool.Decides.{nat_tests}
use Rattle.std.proofs.lemmas.List.{length-map}
use Rattle.pl_scan.specs.Dialect.{marks_of}
use Rattle.pl_rows.specs.Plan.{states}
use Rattle.pl_rows.specs.Ranges.{is_judged}
use Rattle.pl_table.specs.Rows.{row_at}
use Rattle.pl_rows.proofs.RangeLaws.{not_true, not_false, judged-behind}
use Rattle.pl_rows.proofs.RowLaws.{rows-back}
use Rattle.pl_rows.proofs.row.read_row.Goals as goal
use Rattle.pl_rows.proofs.row.read_row.Goals.{else-is_empty-via-then-is_empty+else-is_passed, else-is_empty-via-else-is_empty}

pub returns-then-is_passed : goal.returns-then-is_passed
returns-then-is_passed c =
    let row = row_at (marks_of c.args.plan.now.dialect) c.args.bytes.now in
    let now = states c.add_row.new.buffers in
    let all : length now ≤ length c.add_row.new.buffers = simp length-map (omega arith) in (
      not_true (is_judged c.args.plan.now row) (sym c.if-is_passed.true ∙ c.is_passed.ensures),
      c.cut_back.ensures ∙ rows-back c.args.plan.now (row ∷ []) (length c.add_row.new.buffers) 1 (states c.args.buffers.now) now refl all c.requires.count c.in-Ok.ensures.added,
    )

pub returns-else-is_empty : goal.returns-else-is_empty
returns-else-is_empty c =
    let row = row_at (marks_of c.args.plan.now.dialect) c.args.bytes.now in
    let judged : is_judged c.args.plan.now row ≡ true = elim c.else-is_empty.branch [
      | else-is_empty-via-then-is_empty+else-is_passed w ↦ not_false (is_judged c.args.plan.now row) (sym w.if-is_passed.false ∙ w.is_passed.ensures)
      | else-is_empty-via-else-is_empty w ↦
          let some : 0 < length c.in-Ok.behind.now = grind (arith, nat_tests, c.is_empty.ensures, w.if-is_empty.false) in
          judged-behind c.args.plan.now c.args.bytes.now c.in-Ok.behind.now c.requires.apart c.in-Ok.ensures.behind some
    ] in
    record { judged = judged; whole = c.in-Ok.ensures.whole; added = c.in-Ok.ensures.added; behind_is = c.in-Ok.ensures.behind }
