use Rattle.std.proofs.Common.{rules, sym}
use denote.Enum.Bare.{same_true}
use Rattle.pl_tell.specs.contracts.reason.Reason.{the_type}
use Rattle.pl_tell.proofs.sentences.row_of.Goals as goal

pub returns-then-eq : goal.returns-then-eq
returns-then-eq c = same_true the_type (search rules) _ _ (sym c.if-eq.ensures)
