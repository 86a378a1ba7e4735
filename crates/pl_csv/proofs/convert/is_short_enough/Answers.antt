use Rattle.std.proofs.Common.{◌∙◌}
use Rattle.pl_read.proofs.ProjectionLaws.{projected-below}
use Rattle.pl_csv.proofs.convert.is_short_enough.Goals as goal

pub have_codes-requires : goal.have_codes-requires
have_codes-requires c = projected-below c.args.read.now c.args.prepared.now.schema c.deref.result.now (c.deref.ensures.value ∙ c.requires)
