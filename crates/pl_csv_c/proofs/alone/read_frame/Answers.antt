use Rattle.std.proofs.Common.{sym, subst, length}
use Rattle.pl_frame.specs.Dialect.{IsDialect}
use Rattle.pl_scan.specs.Dialect.{comment_of as scan_comment_of}
use Rattle.pl_rows.specs.Plan.{AreRising}
use Rattle.pl_options.specs.Text.{marks_of}
use Rattle.pl_read.specs.Steps.{IsDataRead}
use Rattle.pl_read.proofs.ProjectionLaws.{projected-rises, projected-below}
use Rattle.pl_read.proofs.DataLaws.{readable-places}
use Rattle.pl_csv_c.proofs.alone.read_frame.Goals as goal

pub read_in_pieces-requires-clause-dialect : goal.read_in_pieces-requires-clause-dialect
read_in_pieces-requires-clause-dialect c =
    let o = c.args.options.now in
    subst (λ m. IsDialect m (scan_comment_of c.args.plan.now.dialect)) (sym c.requires.plan_is.marks_are) (subst (IsDialect (marks_of o.parse_options)) (sym c.requires.plan_is.comment_is) c.requires.dialect)

pub read_in_pieces-requires-clause-rising : goal.read_in_pieces-requires-clause-rising
read_in_pieces-requires-clause-rising c = subst (AreRising 0 (length c.args.schema.now)) (sym c.requires.plan_is.places_are) (projected-rises c.args.options.now c.args.schema.now)

pub read_in_pieces-requires-clause-readable : goal.read_in_pieces-requires-clause-readable
read_in_pieces-requires-clause-readable c =
    readable-places c.args.schema.now c.args.plan.now.projection.places.now c.requires.readable (projected-below c.args.options.now c.args.schema.now c.args.plan.now.projection.places.now c.requires.plan_is.places_are)

pub frame_of_range-requires : goal.frame_of_range-requires
frame_of_range-requires c = (c.args.plan.now, c.args.schema.now, c.args.records.now, record { can = c.requires; is = c.in-Ok.ensures })

pub returns : goal.returns
returns c =
    let plan = c.args.plan.now in
    let schema = c.args.schema.now in
    let records = c.args.records.now in
    let is : IsDataRead plan c.args.options.now schema records c.in-Ok.read = record { can = c.requires; is = c.in-Ok.ensures } in
    record {
      frame = c.frame_of_range.ensures.frame plan schema records is;
      sound = c.frame_of_range.ensures.sound plan schema records is;
      refused = c.frame_of_range.ensures.refused plan schema records is;
    }
