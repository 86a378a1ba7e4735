use Rattle.std.proofs.Common.{length}
use Rattle.pl_rows.proofs.PlanLaws.{rising-below}
use Rattle.pl_csv_c.proofs.pieces.read_in_pieces.Goals as goal

pub empty_stacks-requires : goal.empty_stacks-requires
empty_stacks-requires c = rising-below 0 (length c.args.schema.now) c.args.plan.now.projection.places.now c.requires.rising

pub empty_buffers-requires-clause-places : goal.empty_buffers-requires-clause-places
empty_buffers-requires-clause-places c = rising-below 0 (length c.args.schema.now) c.args.plan.now.projection.places.now c.requires.rising
