use Rattle.std.proofs.Common.{arith, ◌<◌, length}
use Rattle.pl_frame.proofs.OptionalLaws.{slice_get-text, parts}
use Rattle.pl_frame.proofs.texts.Texts.part.Goals as goal

pub returns-then-index-clause-text : goal.returns-then-index-clause-text
returns-then-index-clause-text c =
    let within : c.args.i < length c.self.inside.ends.items = grind (arith, parts) in
    rw (c.deref.ensures.value, ← c.self.view_is)
    (slice_get-text c.self.inside.bytes.items c.self.inside.ends.items c.self.inside.present.items c.args.i c.begin_of.result
    c.index-then-index.result.now c.index.result.now c.self.invariant.one_length within
    (rw c.deref-then-index.ensures.value at c.begin_of.ensures) c.index-then-index.ensures c.index.ensures c.if-index.true)
