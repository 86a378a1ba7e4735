use Rattle.std.proofs.Common.{◌<◌, length, arith, ◌∙◌, refl}
use Rattle.pl_write.specs.Options.{cell_options, frame_options}
use Rattle.pl_csv.proofs.FitTestLaws.{cell-held, cell-written, cell-printed, left-next, some-unfit, one-more, not-true}
use Rattle.pl_csv.proofs.fits.cells_fit.Goals as goal

pub cell_fits-requires-clause-held : goal.cell_fits-requires-clause-held
cell_fits-requires-clause-held c =
    let below : c.loop-row.row < length c.args.column.now.values = omega arith in
    cell-held _ _ c.args.column.now c.loop-row.row c.dtype-dtype.ensures.dtype c.dtype-dtype.ensures.held c.get.ensures below

pub cell_fits-requires-clause-printed : goal.cell_fits-requires-clause-printed
cell_fits-requires-clause-printed c =
    cell-printed (cell_options c.args.bare.now) _ _ c.args.column.now c.loop-row.row _ _ _ c.requires c.dtype-dtype.ensures.dtype c.get.ensures c.loop-row.invariant.left c.clear.ensures.items
    (c.deref.ensures.value ∙ c.in_ok-serialize.ensures.cell)

pub cell_fits-requires-clause-written : goal.cell_fits-requires-clause-written
cell_fits-requires-clause-written c =
    cell-written (cell_options c.args.options.now.serialize_options) _ _ c.args.column.now c.loop-row.row _ _ _ c.dtype-dtype.ensures.dtype c.get.ensures c.loop-row.invariant.unwritten c.clear-in-loop-row.ensures.items
    (c.deref-in-loop-row.ensures.value ∙ c.in_ok-serialize-2.ensures.cell)

pub returns-then-not-cell_fits-clause-fits : goal.returns-then-not-cell_fits-clause-fits
returns-then-not-cell_fits-clause-fits c =
    let below : c.loop-row.row < length c.args.column.now.values = omega arith in
    let h = c.if-not-cell_fits.ensures in (
      λ wrong. absurd (not-true wrong),
      λ all. absurd (some-unfit (frame_options c.args.options.now) _ _ c.args.column.now c.loop-row.row c.dtype-dtype.ensures.dtype c.get.ensures below (λ fit. not-true (h.1 fit)) c.loop-row.invariant.all all),
    )

pub loop-row-preserved : goal.loop-row-preserved
loop-row-preserved c =
    let below : c.loop-row.row < length c.args.column.now.values = omega arith in
    let h = c.if-not-cell_fits.ensures in
    record {
      left = left-next _ _ c.args.column.now c.loop-row.row c.loop-row.invariant.left c.in_ok-serialize.ensures.next;
      unwritten = left-next _ _ c.args.column.now c.loop-row.row c.loop-row.invariant.unwritten c.in_ok-serialize-2.ensures.next;
      all = one-more (frame_options c.args.options.now) _ _ c.args.column.now c.loop-row.row c.dtype-dtype.ensures.dtype c.get.ensures below (h.0 refl) c.loop-row.invariant.all;
    }
