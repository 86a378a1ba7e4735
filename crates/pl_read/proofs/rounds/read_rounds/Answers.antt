use Rattle.pl_intake.proofs.IntakeLaws.{IsReadOn-behind}
use Rattle.pl_read.proofs.rounds.read_rounds.Goals as goal

pub returns-in_err-after-clause-read_on : goal.returns-in_err-after-clause-read_on
returns-in_err-after-clause-read_on g c = IsReadOn-behind _ _ _ _ c.loop.invariant.linked.given.gained.came c.in_err-after.ensures.read_on

pub returns-then-not-is_all-clause-read_on : goal.returns-then-not-is_all-clause-read_on
returns-then-not-is_all-clause-read_on g c = IsReadOn-behind _ _ _ _ c.loop.invariant.linked.given.gained.came c.in_ok-after.ensures.read_on
