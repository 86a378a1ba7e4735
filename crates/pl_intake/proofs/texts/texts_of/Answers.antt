use Rattle.std.proofs.Common.{◌<◌, length, sym, ◌∙◌, ap, arith}
use Rattle.std.specs.Sync.OnceLock.{Named}
use Rattle.pl_intake.proofs.TextLaws.{Token, token-at, texts-more, texts-all}
use Rattle.pl_intake.proofs.texts.texts_of.Goals as goal

pub value-requires : goal.value-requires
value-requires c =
    let tokens = c.args.tokens.now.items in
    let inside : c.loop-place.place < length tokens = omega arith in
    ap (λ (token : Token). token.of) c.index.ensures
    ∙ token-at c.args.cells.now tokens c.loop-place.place c.index.result.now c.index-cells-place.result c.requires inside
    ∙ ap (λ (cell : Named). cell.id) (sym c.index-cells-place.is)

pub loop-place-preserved : goal.loop-place-preserved
loop-place-preserved c =
    let tokens = c.args.tokens.now.items in
    let inside : c.loop-place.place < length tokens = omega arith in
    texts-more tokens c.loop-place.texts.items c.push.new.self.items c.as_slice.result c.loop-place.place c.index.result.now c.loop-place.invariant c.in_ok-push.ensures.items inside
    (c.as_slice.ensures.value ∙ ap (λ text. text.items) c.value.ensures ∙ ap (λ (token : Token). token.value.items) c.index.ensures)

pub returns : goal.returns
returns c = texts-all c.args.cells.now c.args.tokens.now.items c.loop-place.texts.items c.loop-place.place c.requires c.loop-place.invariant (omega arith)
