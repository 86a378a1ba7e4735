use Rattle.std.proofs.Common.{◌∙◌, ap, length}
use Rattle.pl_frame.proofs.PartsLaws.{rows_end}
use Rattle.pl_frame.proofs.parts.Parts.len.Goals as goal

pub returns : goal.returns
returns c =
    let end = rw c.deref.ensures.value at c.last_end.ensures in
    end ∙ rows_end c.self.inside.parts.items c.self.inside.ends.items c.self.invariant ∙ ap length c.self.view_is
