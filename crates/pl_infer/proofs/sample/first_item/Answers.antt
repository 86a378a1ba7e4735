use Rattle.std.proofs.Common.{◌≡◌, List, [], ◌∷◌, length, get_or, sym, ◌∙◌, ap, arith}
use Rattle.pl_scan.specs.Dialect.{marks_of, comment_of}
use Rattle.pl_scan.specs.Items.{ItemText, items, item_text}
use Rattle.pl_scan.proofs.ItemLaws.{items-step}
use Rattle.pl_infer.proofs.sample.first_item.Goals as goal

pub unreachable-requires : goal.unreachable-requires
unreachable-requires c =
    let m = marks_of c.args.dialect.now in
    let comment = comment_of c.args.dialect.now in
    let none : items m comment c.args.bytes.now ≡ [] = sym c.new-items.ensures.value ∙ c.in-None.ensures.steps.0 in
    let more = ap (λ (l : List ItemText). length l) (sym (items-step m comment c.args.bytes.now c.requires) ∙ none) in
    omega (arith, more)

pub returns : goal.returns
returns c =
    let m = marks_of c.args.dialect.now in
    let comment = comment_of c.args.dialect.now in
    let first = item_text c.in-Some.item in
    let more : items m comment c.args.bytes.now ≡ first ∷ c.next.new.self = sym c.new-items.ensures.value ∙ c.in-Some.ensures.steps in
    ap (λ l. get_or l 0 first) (sym more ∙ items-step m comment c.args.bytes.now c.requires)
