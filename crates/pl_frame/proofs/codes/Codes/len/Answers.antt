use Rattle.std.proofs.Common.{subst}
use Rattle.pl_frame.specs.Optional.{AreAllUtf8}
use Rattle.pl_frame.proofs.CategoryLaws.{decoded-utf8}
use Rattle.pl_frame.proofs.codes.Codes.len.Goals as goal

pub returns-clause-utf8 : goal.returns-clause-utf8
returns-clause-utf8 c = subst AreAllUtf8 c.self.view_is (decoded-utf8 _ _ c.self.invariant.codes_are c.self.invariant.utf8)
