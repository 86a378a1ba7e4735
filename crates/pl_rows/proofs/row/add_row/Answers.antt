use Rattle.std.proofs.Common.{◌≤◌, ◌∷◌, [], length, refl, ◌∙◌, arith}
use Rattle.std.proofs.lemmas.List.{length-map}
use Rattle.pl_scan.specs.Dialect.{marks_of}
use Rattle.pl_rows.specs.Plan.{states}
use Rattle.pl_table.specs.Rows.{row_at}
use Rattle.pl_rows.proofs.RowLaws.{row-whole, row-excess, rows-back, cells-back}
use Rattle.pl_rows.proofs.row.add_row.Goals as goal

pub returns-in-Ok-end_row-clause-whole : goal.returns-in-Ok-end_row-clause-whole
returns-in-Ok-end_row-clause-whole c =
    (row-whole c.args.plan.now c.args.bytes.now (states c.args.buffers.now) (states c.add_cells.new.buffers) c.in-Ok.rest c.in-Ok-end_row.behind c.requires.count c.in-Ok.ensures c.in-Ok-end_row.ensures).0

pub returns-in-Ok-end_row-clause-behind : goal.returns-in-Ok-end_row-clause-behind
returns-in-Ok-end_row-clause-behind c =
    (row-whole c.args.plan.now c.args.bytes.now (states c.args.buffers.now) (states c.add_cells.new.buffers) c.in-Ok.rest c.in-Ok-end_row.behind c.requires.count c.in-Ok.ensures c.in-Ok-end_row.ensures).1

pub returns-in-Err-end_row-clause-fault : goal.returns-in-Err-end_row-clause-fault
returns-in-Err-end_row-clause-fault c =
    row-excess c.args.plan.now c.args.bytes.now (states c.args.buffers.now) (states c.add_cells.new.buffers) c.in-Ok.rest c.in-Err-end_row.fault c.requires.count c.in-Ok.ensures c.in-Err-end_row.ensures

pub returns-in-Err-end_row-clause-kept : goal.returns-in-Err-end_row-clause-kept
returns-in-Err-end_row-clause-kept c =
    let row = row_at (marks_of c.args.plan.now.dialect) c.args.bytes.now in
    let now = states c.add_cells.new.buffers in
    let all : length now ≤ length c.add_cells.new.buffers = simp length-map (omega arith) in
    c.cut_back.ensures ∙ rows-back c.args.plan.now (row ∷ []) (length c.add_cells.new.buffers) 1 (states c.args.buffers.now) now refl all c.requires.count c.in-Ok.ensures.added

pub returns-in-Err-clause-kept : goal.returns-in-Err-clause-kept
returns-in-Err-clause-kept c =
    let row = row_at (marks_of c.args.plan.now.dialect) c.args.bytes.now in
    let before = states c.args.buffers.now in
    let few : c.in-Err.columns ≤ length before = omega (arith, c.in-Err.ensures.few) in
    c.cut_back-in-Err.ensures ∙ cells-back c.args.plan.now row c.in-Err.columns before (states c.add_cells.new.buffers) few c.requires.count c.in-Err.ensures.added
