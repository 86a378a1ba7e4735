use Rattle.std.proofs.Common.{length, refl}
use Rattle.pl_rows.proofs.PlanLaws.{rising-below}
use Rattle.pl_read.proofs.ArrivingLaws.{IsLinked-none}
use Rattle.pl_read.proofs.linked.none_linked.Goals as goal

pub empty_stacks-requires : goal.empty_stacks-requires
empty_stacks-requires c = rising-below 0 (length c.args.schema.now) c.args.plan.now.projection.places.now c.requires.rising

pub returns : goal.returns
returns c = IsLinked-none c.args.plan.now c.args.schema.now (record { stacks = c.in_ok-stacks.stacks; front = record { rows = 0; end = 0 } }) c.in_ok-stacks.ensures refl refl
