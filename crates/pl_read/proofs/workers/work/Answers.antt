use Rattle.std.proofs.Common.{length}
use Rattle.pl_rows.proofs.PlanLaws.{rising-below}
use Rattle.pl_read.proofs.workers.work.Goals as goal

pub empty_buffers-requires-clause-places : goal.empty_buffers-requires-clause-places
empty_buffers-requires-clause-places g c = rising-below 0 (length c.args.schema.now) c.args.plan.now.projection.places.now c.requires.rising
