use Rattle.std.proofs.Common.{◌∙◌, map, ap, arith}
use Rattle.std.specs.Cow.{cow_slice_items}
use Rattle.std.specs.List.{concat}
use Rattle.pl_multi.proofs.LineLaws.{push-two, texts-more}
use Rattle.pl_multi.proofs.printing.texts_of.Goals as goal

pub loop-kept-preserved : goal.loop-kept-preserved
loop-kept-preserved c =
    let before = c.loop-kept.texts.items in
    ap concat (push-two cow_slice_items before c.push.new.self.items c.push-in-loop-kept.new.self.items _ _ c.in_ok-push.ensures.items c.in_ok-push-2.ensures.items)
    ∙ texts-more (map cow_slice_items before) c.args.lines.now c.loop-kept.kept-index _ c.texts.result.0.now c.texts.result.1.now c.loop-kept.invariant (omega (arith, c.loop-kept-test.true)) c.kept-item.is c.texts.ensures
