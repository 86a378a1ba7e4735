use Rattle.std.proofs.Common.{sym, ◌∙◌, ap, subst}
use Rattle.std.specs.Prelude.{slice_range}
use Rattle.pl_rows.specs.WholePieces.{IsPieceFound}
use Rattle.pl_rows.proofs.SoundTextLaws.{found-meant}
use Rattle.pl_rows.proofs.apart.read_apart.Goals as goal

pub returns-clause-read : goal.returns-clause-read
returns-clause-read g c =
    let plan = c.args.plan.now in
    let schema = c.args.schema.now in
    let piece = c.args.piece.now in
    let range = g.K.Reading.range in
    let read = c.in_ok-read.read in
    record {
      text_is = c.requires.text ∙ ap (λ k. slice_range range k piece.to) (sym c.from.ensures) ∙ ap (λ k. slice_range range c.from.result k) (sym c.to.ensures);
      read_is = found-meant plan schema piece.text read g.K.Reading.reads c.requires.meant (subst (λ text. IsPieceFound plan schema text read) c.bytes.ensures c.in_ok-read.ensures.found);
    }
