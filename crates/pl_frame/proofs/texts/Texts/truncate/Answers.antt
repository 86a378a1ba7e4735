use Rattle.std.proofs.Common.{arith}
use Rattle.pl_frame.proofs.CutLaws.{AreTexts-take}
use Rattle.pl_frame.proofs.texts.Texts.truncate.Goals as goal

pub invariant_of-self : goal.invariant_of-self
invariant_of-self c = rw (c.truncate.ensures.items, c.truncate-then-len.ensures.items, c.truncate-then-len-2.ensures.items)
    (AreTexts-take c.self.inside.bytes.items c.self.inside.ends.items c.self.inside.present.items c.args.len c.begin_of-begin.result c.self.invariant (omega arith) (rw c.deref.ensures.value at c.begin_of-begin.ensures))
