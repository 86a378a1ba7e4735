use Rattle.std.proofs.Common.{◌≡◌, ◌<◌, None, sym, ◌∙◌, length, arith}
use Rattle.pl_frame.specs.Equal.{cells_equal}
use Rattle.pl_frame.proofs.AlikeLaws.{pointwise-all, pointwise-differ, each_more, row_told}
use Rattle.pl_frame.proofs.equal.have_same_rows.Goals as goal

pub returns-then-not-is_same : goal.returns-then-not-is_same
returns-then-not-is_same c =
    let n : length c.args.a.now.values ≡ length c.args.b.now.values = sym c.len.ensures ∙ c.if-len.false ∙ c.len-2.ensures in
    let l : c.loop-row.row < length c.args.a.now.values = let m = c.loop-row-test.true in let e = c.len-row-end.ensures in omega (arith, m, e) in
    sym (pointwise-differ cells_equal None c.args.a.now.values c.args.b.now.values c.loop-row.row l (omega (arith, l, n))
    (row_told c.args.a.now.values c.args.b.now.values c.loop-row.row c.is_same.result _ _ c.get.ensures c.get-in-loop-row.ensures c.is_same.ensures ∙ c.if-not-is_same.true))

pub returns : goal.returns
returns c =
    sym (pointwise-all cells_equal None c.args.a.now.values c.args.b.now.values (sym c.len.ensures ∙ c.if-len.false ∙ c.len-2.ensures)
    (λ k l. c.loop-row.invariant k (omega (arith, l))))

pub loop-row-preserved : goal.loop-row-preserved
loop-row-preserved c =
    each_more c.loop-row.row c.loop-row.invariant
    (row_told c.args.a.now.values c.args.b.now.values c.loop-row.row c.is_same.result _ _ c.get.ensures c.get-in-loop-row.ensures c.is_same.ensures ∙ c.if-not-is_same.false)
