use Rattle.std.proofs.Common.{◌<◌, length, ◌∙◌, ap, arith, refl, slice_get, unwrap_or, None}
use Rattle.pl_frame.specs.declared.data_type.DataType.TheVariants as dtype
use Rattle.pl_frame.specs.Columns.{truth_cells, number_cells, text_cells}
use Rattle.pl_frame.specs.GatheredCells.{truth_in, whole_in}
use Rattle.pl_frame.specs.Parts.{part_cells}
use Rattle.pl_frame.proofs.GatheredLaws.{cell_fits, truth_more, number_more, number_from_narrow, narrow_fits, string_more, rows_more}
use Rattle.pl_frame.proofs.runs.push_wide_rows.Goals as goal

pub loop-row-preserved : goal.loop-row-preserved
loop-row-preserved c =
    let values = part_cells c.args.part.now in
    let within : c.loop-row.row < length values = (let h = c.requires.rows.1 in let l = c.loop-row-test.true in omega (arith, h, l)) in
    let fits = cell_fits c.args.dtype.now values c.loop-row.row c.requires.held within in
    record {
      behind = let h = c.loop-row.invariant.behind in omega (arith, h);
      cells = rows_more values (number_cells c.args.numbers.now) (number_cells c.loop-row.numbers) _ c.args.from c.loop-row.row c.loop-row.invariant.behind within c.loop-row.invariant.cells
          (number_more c.args.dtype.now _ _ _ (unwrap_or (slice_get values c.loop-row.row) None) c.requires.number fits (c.whole_in.ensures ∙ ap whole_in c.get.ensures) c.in_ok-push_option.ensures);
    }
