use Rattle.pl_read.proofs.ProjectionLaws.{projected-below}
use Rattle.pl_csv_c.proofs.alone.goes_straight.Goals as goal

pub are_plain-requires : goal.are_plain-requires
are_plain-requires c = projected-below c.args.options.now c.args.schema.now c.args.plan.now.projection.places.now c.requires.places_are
