use Rattle.pl_rows.proofs.PlanLaws.{only_memory}
use Rattle.pl_rows.proofs.columns.wanting.Goals as goal

pub unreachable-requires : goal.unreachable-requires
unreachable-requires c = c.in_default.not-OutOfMemory (only_memory c.args.fault c.requires)
