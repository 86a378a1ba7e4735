use Rattle.std.proofs.Common.{length}
use Rattle.pl_rows.proofs.PlanLaws.{rising-below}
use Rattle.pl_csv_c.proofs.straight.read_straight.Goals as goal

pub all_empty-requires : goal.all_empty-requires
all_empty-requires c = rising-below 0 (length c.args.schema.now) c.args.plan.now.projection.places.now c.requires.rising
