use Rattle.std.proofs.Common.{◌≡◌, ◌<◌, ◌++◌, ◌∷◌, [], length, List, ℕ, sym, ◌∙◌, ap, subst, arith}
use Rattle.std.specs.Prelude.{All}
use Rattle.std.specs.Sync.OnceLock.{Named}
use Rattle.pl_multi.specs.Cells.{CellToken, IsTakenCell}
use Rattle.pl_multi.specs.declared.settling.TakenCell.{TakenCell}
use Rattle.pl_multi.proofs.CellLaws.{token-at}
use Rattle.pl_multi.proofs.GroupLaws.{next-of}
use Rattle.pl_multi.proofs.settling.settle.Goals as goal

pub agrees-requires : goal.agrees-requires
agrees-requires c =
    let tokens = c.args.tokens.now.items in
    let cells = c.args.cells.now in
    let one = c.in-Some.one in
    let is = next-of (IsTakenCell c.args.read.now c.args.write.now cells) c.args.taken.items c.into_iter-one-iterator.result c.loop-one.yielded c.loop-one.one-iterator one c.next.new.self
    c.requires.taken c.into_iter-one-iterator.ensures.into_iter_gives.0 c.loop-one.yielded_by c.in-Some.ensures.steps.0 in
    let inside : one.place < length tokens = omega arith in
    let cell : Named = record { id = one.token.of } in
    ap (λ (token : CellToken). token.of) c.index.ensures
    ∙ token-at cells tokens one.place c.index.result.now cell c.requires.set inside
    ∙ sym (is.of cell)
