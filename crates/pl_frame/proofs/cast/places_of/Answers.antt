use Rattle.std.proofs.Common.{◌∙◌, arith, ap}
use Rattle.pl_frame.specs.Categories.{code_of}
use Rattle.pl_frame.specs.Columns.{text_in, scalar_of}
use Rattle.pl_frame.proofs.CastLaws.{row_more}
use Rattle.pl_frame.proofs.cast.places_of.Goals as goal

pub loop-row-preserved : goal.loop-row-preserved
loop-row-preserved c =
    row_more (λ cell. code_of c.args.categories.now (text_in cell)) c.args.column.now.values c.loop-row.places _ c.loop-row.row _ c.place_in.result
    (let t = c.loop-row-test.true in let e = c.len-row-end.ensures in omega (arith, t, e)) c.loop-row.invariant c.get.ensures
    (c.place_in.ensures ∙ ap (λ k. code_of k (text_in (scalar_of c.get.result))) (c.in_ok-categories.ensures ∙ c.texts.ensures)) c.in_ok-push_option.ensures
