use Rattle.std.proofs.Common.{◌≡◌, ◌<◌, None, refl, sym, ◌∙◌, length, arith}
use Rattle.std.specs.Option.{option_eq}
use Rattle.std.specs.Ordering.{int_eq}
use Rattle.pl_frame.proofs.AlikeLaws.{pointwise-all, pointwise-differ, each_more, number_told, false_from_not}
use Rattle.pl_frame.proofs.ColumnLaws.{true_from_not}
use Rattle.pl_frame.proofs.equal.are_same_numbers.Goals as goal

pub returns-then-ne : goal.returns-then-ne
returns-then-ne c =
    let n : length c.args.a.now ≡ length c.args.b.now = sym c.len.ensures ∙ c.if-len.false ∙ c.len-2.ensures in
    let l : c.loop-row.row < length c.args.a.now = let m = c.loop-row-test.true in let e = c.len-row-end.ensures in omega (arith, m, e) in
    sym (pointwise-differ (option_eq int_eq) None c.args.a.now c.args.b.now c.loop-row.row l (omega (arith, l, n))
    (number_told c.args.a.now c.args.b.now c.loop-row.row _ c.get.result c.get-in-loop-row.result c.get.ensures c.get-in-loop-row.ensures refl
    ∙ false_from_not _ (sym c.ne.ensures ∙ c.if-ne.true)))

pub returns : goal.returns
returns c =
    sym (pointwise-all (option_eq int_eq) None c.args.a.now c.args.b.now (sym c.len.ensures ∙ c.if-len.false ∙ c.len-2.ensures)
    (λ k l. c.loop-row.invariant k (omega (arith, l))))

pub loop-row-preserved : goal.loop-row-preserved
loop-row-preserved c =
    each_more c.loop-row.row c.loop-row.invariant
    (number_told c.args.a.now c.args.b.now c.loop-row.row _ c.get.result c.get-in-loop-row.result c.get.ensures c.get-in-loop-row.ensures refl
    ∙ true_from_not _ (sym c.ne.ensures ∙ c.if-ne.false))
