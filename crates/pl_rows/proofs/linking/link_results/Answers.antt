use Rattle.std.proofs.Common.{length}
use Rattle.pl_rows.proofs.PlanLaws.{rising-below}
use Rattle.pl_rows.proofs.linking.link_results.Goals as goal

pub empty_stacks-requires : goal.empty_stacks-requires
empty_stacks-requires g c = rising-below 0 (length c.args.schema.now) c.args.plan.now.projection.places.now c.requires.rising
