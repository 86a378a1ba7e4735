use Rattle.std.proofs.Common.{◌-◌, ◌++◌, sym, take, drop, ◌<◌, length, ◌∙◌, ap, arith, refl, slice_get, unwrap_or, None}
use Rattle.pl_frame.specs.declared.data_type.DataType.TheVariants as dtype
use Rattle.pl_frame.specs.Columns.{truth_cells, number_cells, text_cells}
use Rattle.pl_frame.specs.GatheredCells.{truth_in, whole_in}
use Rattle.pl_frame.specs.Parts.{part_cells}
use Rattle.pl_frame.specs.Frame.{Truth}
use Rattle.pl_frame.proofs.HeldLaws.{cells_run}
use Rattle.std.proofs.lemmas.Result.{on_ok_weaker}
use Rattle.pl_frame.proofs.GatheredLaws.{cell_fits, truth_more, number_more, number_from_narrow, narrow_fits, string_more, rows_more}
use Rattle.pl_frame.proofs.runs.push_truths.Goals as goal

pub loop-row-preserved : goal.loop-row-preserved
loop-row-preserved c =
    let values = part_cells c.args.part.now in
    let within : c.loop-row.row < length values = (let h = c.requires.rows.1 in let l = c.loop-row-test.true in omega (arith, h, l)) in
    let fits = cell_fits dtype.Boolean values c.loop-row.row c.requires.held within in
    record {
      behind = let h = c.loop-row.invariant.behind in omega (arith, h);
      cells = rows_more values (truth_cells c.args.truths.now) (truth_cells c.loop-row.truths) _ c.args.from c.loop-row.row c.loop-row.invariant.behind within c.loop-row.invariant.cells
          (truth_more dtype.Boolean _ _ _ (unwrap_or (slice_get values c.loop-row.row) None) refl fits (c.truth_in.ensures ∙ ap truth_in c.get.ensures) c.in_ok-push_option.ensures);
    }

pub returns-in-Boolean : goal.returns-in-Boolean
returns-in-Boolean c =
    let n = c.args.to - c.args.from in
    on_ok_weaker c.append_range.result
    (λ e. ap truth_cells e ∙ cells_run Truth c.args.truths.now c.in-Boolean.more n c.args.from
    ∙ ap (λ part. truth_cells c.args.truths.now ++ take n (drop c.args.from (part_cells part))) (sym c.in-Boolean.is))
    c.append_range.ensures
