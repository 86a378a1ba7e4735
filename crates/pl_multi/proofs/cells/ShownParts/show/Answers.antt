use Rattle.std.proofs.Common.{◌≡◌, ◌++◌, ◌∷◌, [], List, ℕ, Vec, Global, length, get_or, sym, ◌∙◌, ap, subst, arith}
use Rattle.std.specs.Sync.OnceLock.{Named}
use Rattle.pl_multi.specs.Cells.{AreSetIn, Held, CellToken, held_bytes}
use Rattle.pl_multi.proofs.CellLaws.{set-push, held-push}
use Rattle.pl_multi.proofs.cells.ShownParts.show.Goals as goal

pub returns-clause-set : goal.returns-clause-set
returns-clause-set g c =
    let cells = c.args.cells.now in
    let tokens = c.args.self.now.tokens.items in
    let token : CellToken = c.in-Ok-set.token in
    let cell = c.index-cells-place.result in
    let items : c.push_reserved.new.self.items ≡ tokens ++ token ∷ [] = c.push_reserved.ensures.items ∙ ap (λ (l : List CellToken). l ++ token ∷ []) c.reserve.ensures.items in
    let is : token.of ≡ (get_or cells (length tokens) cell).id =
    c.in-Ok-set.ensures.0.0 ∙ ap (λ (named : Named). named.id) (c.index-cells-place.is ∙ ap (λ n. get_or cells n cell) c.requires.next) in
    subst (AreSetIn cells) (sym items) (set-push cells tokens token cell c.requires.set (omega (arith, c.requires.next, c.requires.inside)) is)

pub returns-clause-held : goal.returns-clause-held
returns-clause-held g c =
    let held = c.args.self.now.held.items in
    let mine : Held = c.in-Ok.mine in
    let items : c.push_reserved-2.new.self.items ≡ held ++ mine ∷ [] = c.push_reserved-2.ensures.items ∙ ap (λ (l : List Held). l ++ mine ∷ []) c.reserve-2.ensures.items in
    ap held_bytes items ∙ held-push held mine ∙ ap (λ (b : Vec ℕ Global). held_bytes held ++ b.items ∷ []) c.in-Ok.ensures.ok
