use Rattle.std.proofs.Common.{◌≡◌, false, sym, ◌∙◌, ap, subst, arith}
use Rattle.std.specs.Prelude.{All}
use Rattle.std.proofs.lemmas.List.{take_all}
use Rattle.std.proofs.lemmas.List.Elements.{All-more}
use Rattle.pl_write.specs.Printing.{ShareValue}
use Rattle.pl_write.proofs.printing.are_printed.Goals as goal

pub loop-share-preserved : goal.loop-share-preserved
loop-share-preserved c =
    let P = λ (share : ShareValue). share.wanting ≡ false in
    All-more P c.args.shares.now c.loop-share.share-index c.share-item.result c.loop-share-test.true c.loop-share.invariant
    (ap (λ (share : ShareValue). share.wanting) (sym c.share-item.is) ∙ sym c.is_wanting.ensures ∙ c.if-is_wanting.false)

pub returns : goal.returns
returns c =
    subst (All (λ (share : ShareValue). share.wanting ≡ false)) (take_all c.loop-share.share-index c.args.shares.now (omega (arith, c.loop-share-test.false))) c.loop-share.invariant
