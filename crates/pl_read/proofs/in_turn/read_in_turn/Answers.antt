use Rattle.std.proofs.Common.{length}
use Rattle.pl_intake.proofs.IntakeLaws.{IsReadOn-behind}
use Rattle.pl_rows.proofs.PlanLaws.{rising-below}
use Rattle.pl_read.proofs.in_turn.read_in_turn.Goals as goal

pub empty_buffers-requires-clause-places : goal.empty_buffers-requires-clause-places
empty_buffers-requires-clause-places g c = rising-below 0 (length c.args.schema.now) c.args.plan.now.projection.places.now c.requires.can.rising

pub returns-in_err-text-clause-read_on : goal.returns-in_err-text-clause-read_on
returns-in_err-text-clause-read_on g c = IsReadOn-behind _ _ _ _ c.loop.invariant.linked.given.gained.came c.in_err-text.ensures.read_on

pub returns-in-None-clause-read_on : goal.returns-in-None-clause-read_on
returns-in-None-clause-read_on g c = IsReadOn-behind _ _ _ _ c.loop.invariant.linked.given.gained.came c.in_ok-text.ensures.read_on
