use Rattle.pl_terminal.proofs.ShownLaws.{harmless-nil}
use Rattle.pl_terminal.proofs.message.Message.new.Goals as goal

pub invariant_of-result : goal.invariant_of-result
invariant_of-result c = rw c.new.ensures.bytes harmless-nil
