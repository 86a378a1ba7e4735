use Rattle.std.proofs.Common.{◌≡◌, ◌++◌, length, take, drop, sym, ◌∙◌, ap, subst, arith}
use Rattle.std.specs.List.{flat_map}
use Rattle.pl_rows.proofs.FrameLaws.{written_back}
use Rattle.pl_read.specs.NextFrames.{AreReadParts, records_of, texts_of}
use Rattle.pl_read.proofs.NextFrameLaws.{AreReadParts-each, CanReadPart-data, none-told}
use Rattle.pl_read.proofs.next_frames.Behind.read_parts.Goals as goal

pub read_each-requires-clause-can : goal.read_each-requires-clause-can
read_each-requires-clause-can g c κs within = CanReadPart-data c.args.self.now c.args.text.now (c.requires.can c.args.text.now)

pub returns : goal.returns
returns g c =
    let b = c.args.self.now in
    let text = c.args.text.now in
    let items = c.args.parts.items in
    let old = c.deref_mut.result.now in
    let new = c.read_each.new.parts in
    let same : old ≡ items = c.deref_mut.ensures.value in
    let back : take c.args.parts.len (new ++ drop (length new) items) ≡ new =
    written_back items new c.args.parts.len (omega (arith, c.args.parts.ok, c.deref_mut.ensures.len)) (omega (arith, c.read_each.auto.parts, c.deref_mut.ensures.len, c.args.parts.ok)) in
    let none = none-told b.options.now.n_rows (sym c.is_some.ensures ∙ c.if-is_some.false) in
    let read =
    AreReadParts-each b text new old none (omega (arith, c.requires.some, ap length same)) (omega (arith, c.read_each.auto.parts)) c.read_each.ensures
    (ap (λ ps. flat_map (records_of b.options.now) (texts_of ps)) same ∙ c.requires.rows_are) in
    subst (AreReadParts b text (length items)) (sym back) (subst (λ k. AreReadParts b text k new) (ap length same) read)
