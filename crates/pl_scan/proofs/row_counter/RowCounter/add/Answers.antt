use Rattle.std.proofs.Common.{◌∙◌, ap, arith, [], append-nil}
use Rattle.pl_frame.specs.Dialect.{marks}
use Rattle.pl_scan.specs.RowStates.{rows_behind, rows_with, Count}
use Rattle.pl_scan.proofs.RowStateLaws.{few-rows}
use Rattle.pl_scan.proofs.row_counter.RowCounter.add.Goals as goal

pub returns-clause-few : goal.returns-clause-few
returns-clause-few c =
    let before = c.self.inside in
    let m = marks before.separator before.quote_char before.eol_char in
    let counted = c.count_block-state.ensures.rows [] ∙ ap (rows_behind m before.state) (append-nil c.args.block.now) in
    let was = ap (λ (count : Count). rows_with count []) c.self.view_is in
    omega (arith, counted, was, few-rows m before.state c.args.block.now)
