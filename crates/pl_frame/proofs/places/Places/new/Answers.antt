use Rattle.std.proofs.Common.{◌≡◌, sym, ◌∙◌, ap, take, get_or, [], ◌∷◌, ◌++◌, arith}
use Rattle.std.specs.Prelude.{string_bytes}
use Rattle.std.proofs.lemmas.List.{get_or_default, take_more}
use Rattle.pl_frame.proofs.CategoryLaws.{keys-more}
use Rattle.pl_frame.proofs.NameLaws.{absent_before}
use Rattle.pl_frame.proofs.places.Places.new.Goals as goal

pub loop-text-preserved : goal.loop-text-preserved
loop-text-preserved c =
    let texts = c.args.texts.now in
    let here : get_or texts c.loop-text.text-index [] ≡ c.text-item.result = sym (c.text-item.is ∙ get_or_default texts c.loop-text.text-index c.text-item.result [] (let t = c.loop-text-test.true in omega (arith, t))) in
    keys-more string_bytes _ _ c.loop-text.invariant c.in-Ok.key _ c.text-item.result (c.in-Ok.ensures.ok ∙ c.as_str.ensures)
    (absent_before texts c.loop-text.text-index c.text-item.result c.requires (let t = c.loop-text-test.true in omega (arith, t)) here) c.in-Ok-insert.ensures.keys
    ∙ ap (λ t. take c.loop-text.text-index texts ++ t ∷ []) (sym here) ∙ sym (take_more texts c.loop-text.text-index [] (let t = c.loop-text-test.true in omega (arith, t)))
