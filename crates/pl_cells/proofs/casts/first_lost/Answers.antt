use Rattle.std.proofs.Common.{ℕ, None, get_or, sym, ◌∙◌, ap, arith, below_more, false, ◌≡◌}
use Rattle.pl_frame.proofs.AlikeLaws.{cell_is}
use Rattle.pl_frame.proofs.ColumnLaws.{position-found, position-nowhere}
use Rattle.pl_cells.specs.Casts.{is_lost}
use Rattle.pl_cells.proofs.casts.first_lost.Goals as goal

pub returns-then-is_lost_at : goal.returns-then-is_lost_at
returns-then-is_lost_at c =
    let values = c.args.column.now.values in
    sym (position-found (is_lost c.args.column.now.dtype c.args.cast.now.dtype) values c.loop-row.row None (let t = c.loop-row-test.true in let e = c.len-row-end.ensures in omega (arith, t, e)) c.loop-row.invariant
    (ap (is_lost c.args.column.now.dtype c.args.cast.now.dtype) (sym (cell_is values c.loop-row.row)) ∙ sym c.is_lost_at.ensures ∙ c.if-is_lost_at.true))

pub loop-row-preserved : goal.loop-row-preserved
loop-row-preserved c =
    let values = c.args.column.now.values in
    below_more (λ (k : ℕ). is_lost c.args.column.now.dtype c.args.cast.now.dtype (get_or values k None) ≡ false) c.loop-row.row c.loop-row.invariant
    (ap (is_lost c.args.column.now.dtype c.args.cast.now.dtype) (sym (cell_is values c.loop-row.row)) ∙ sym c.is_lost_at.ensures ∙ c.if-is_lost_at.false)

pub returns : goal.returns
returns c =
    sym (position-nowhere (is_lost c.args.column.now.dtype c.args.cast.now.dtype) c.args.column.now.values None
    (λ k l. c.loop-row.invariant k (let f = c.loop-row-test.false in let e = c.len-row-end.ensures in omega (arith, f, e, l))))
