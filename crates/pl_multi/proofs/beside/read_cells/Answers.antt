use Rattle.std.proofs.Common.{◌≡◌, [], ◌∷◌, ◌++◌, ◌+◌, List, ℕ, length, length-append, not, ◌∙◌, sym, ap, arith, rules}
use Rattle.std.proofs.lemmas.List.{length-map}
use Rattle.pl_multi.specs.Cells.{Held, CellToken, cell_bytes, held_bytes, token_bytes}
use Rattle.pl_multi.proofs.GroupLaws.{read-next, ok-holds}
use Rattle.pl_multi.proofs.beside.read_cells.Goals as goal

pub loop-count-preserved : goal.loop-count-preserved
loop-count-preserved g c =
    let l = c.loop-count.invariant in
    let holds = g.O.Opener.holds c.args.opener.now in
    let parts = c.args.parts.now in
    let old = c.loop-count.shown in
    let new = c.show.new.self in
    let bytes = c.in-Ok.bytes.items in
    let shown = c.is_err.ensures.negation ∙ ap not c.if-is_err.false in
    let tokens : token_bytes new.tokens.items ≡ token_bytes old.tokens.items ++ bytes ∷ [] = ok-holds c.show.result _ shown c.show.ensures.tokens in
    let held : held_bytes new.held.items ≡ held_bytes old.held.items ++ bytes ∷ [] = ok-holds c.show.result _ shown c.show.ensures.held in
    let f = λ (token : CellToken). cell_bytes token.value in
    let h = λ (one : Held). one.value.items in
    record {
      set = c.show.ensures.set;
      same = tokens ∙ ap (λ (l : List (List ℕ)). l ++ bytes ∷ []) l.same ∙ sym held;
      read = read-next holds (g.O.Opener.holds c.loop-count.opener) l.stays parts c.args.first c.loop-count.count (c.args.first + c.loop-count.count) (held_bytes old.held.items) (held_bytes new.held.items) bytes c.index-parts-place.result
          (omega (arith, length-map old.held.items h, l.held)) (omega arith) (omega (arith, c.loop-count-test.true, c.requires.within)) c.index-parts-place.is c.in-Ok.ensures.held held l.read;
      tokens = omega (arith, ap length tokens, length-append (token_bytes old.tokens.items) (bytes ∷ []), length-map new.tokens.items f, length-map old.tokens.items f, l.tokens);
      held = omega (arith, ap length held, length-append (held_bytes old.held.items) (bytes ∷ []), length-map new.held.items h, length-map old.held.items h, l.held);
      within = omega (arith, c.loop-count-test.true);
      later = omega (arith, l.later, c.read_part.ensures.later);
      stays = λ other. c.read_part.ensures.stays other ∙ l.stays other;
    }
