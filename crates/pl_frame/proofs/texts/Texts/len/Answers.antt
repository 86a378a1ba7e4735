use Rattle.std.proofs.Common.{subst}
use Rattle.pl_frame.specs.Optional.{AreAllUtf8}
use Rattle.pl_frame.proofs.CellLaws.{utf8-flagged}
use Rattle.pl_frame.proofs.texts.Texts.len.Goals as goal

pub returns-clause-utf8 : goal.returns-clause-utf8
returns-clause-utf8 c = subst AreAllUtf8 c.self.view_is (utf8-flagged _ _ c.self.invariant.utf8)
