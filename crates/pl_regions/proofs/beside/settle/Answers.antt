use Rattle.std.proofs.Common.{◌<◌, length, sym, ◌∙◌, ap, arith}
use Rattle.std.specs.Sync.OnceLock.{Named}
use Rattle.pl_write.specs.Options.{cell_options}
use Rattle.pl_regions.specs.Arriving.{IsTaken}
use Rattle.pl_intake.proofs.TextLaws.{Token, token-at}
use Rattle.pl_regions.proofs.RegionLaws.{next-of}
use Rattle.pl_regions.proofs.beside.settle.Goals as goal

pub agrees-requires : goal.agrees-requires
agrees-requires c =
    let tokens = c.args.tokens.now.items in
    let cells = c.args.cells.now in
    let taken = c.in-Some.taken in
    let is = next-of (IsTaken c.args.plan.now c.args.schema.now (cell_options c.args.options.now) cells) c.args.all.items c.into_iter-taken-iterator.result c.loop-taken.yielded c.loop-taken.taken-iterator taken c.next.new.self
    c.requires.taken c.into_iter-taken-iterator.ensures.into_iter_gives.0 c.loop-taken.yielded_by c.in-Some.ensures.steps.0 in
    let inside : taken.region.place < length tokens = omega arith in
    let cell : Named = record { id = taken.token.of } in
    ap (λ (token : Token). token.of) c.index.ensures
    ∙ token-at cells tokens taken.region.place c.index.result.now cell c.requires.set inside
    ∙ sym (is.of cell)
