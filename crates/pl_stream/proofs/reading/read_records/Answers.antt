use Rattle.std.proofs.Common.{sym, ◌∙◌, ap}
use Rattle.pl_infer.specs.Schemas.{first_unreadable_column}
use Rattle.pl_read.specs.Projection.{projected}
use Rattle.pl_read.specs.SettleGiven.{given_schema}
use Rattle.pl_read.proofs.ProjectionLaws.{projected-rises, projected-below}
use Rattle.pl_read.proofs.DataLaws.{readable-places}
use Rattle.pl_seek.proofs.PartLaws.{readable-given, free-given, ok-map}
use Rattle.pl_stream.proofs.ReadingLaws.{stream-read}
use Rattle.pl_stream.proofs.reading.read_records.Goals as goal

pub read_columns-requires-clause-rising : goal.read_columns-requires-clause-rising
read_columns-requires-clause-rising c =
    let o = c.args.read.now in
    rw (c.requires.is.schema_is, c.plan_in-plan.ensures.plan.places_are) (projected-rises o (given_schema o))

pub read_columns-requires-clause-readable : goal.read_columns-requires-clause-readable
read_columns-requires-clause-readable c =
    let o = c.args.read.now in
    let is = c.requires.is.schema_is in
    let places = c.plan_in-plan.ensures.plan.places_are ∙ ap (projected o) (sym is) in
    readable-places c.args.settled.now.schema c.plan_in-plan.result.projection.places.now (ap first_unreadable_column is ∙ readable-given o c.requires.sound)
    (projected-below o c.args.settled.now.schema c.plan_in-plan.result.projection.places.now places)

pub returns : goal.returns
returns c =
    let o = c.args.read.now in
    ok-map c.read_columns.result
    (λ read is. stream-read c.plan_in-plan.result o c.args.count c.args.text.now c.args.settled.now.schema read c.plan_in-plan.ensures.plan c.requires.is.schema_is
    c.plan_in-plan.ensures.distinct (free-given o c.requires.sound) is)
    c.read_columns.ensures
