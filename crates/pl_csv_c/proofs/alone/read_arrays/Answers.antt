use Rattle.std.proofs.Common.{sym, ◌∙◌, subst, length, inl}
use Rattle.pl_frame.specs.Dialect.{IsDialect}
use Rattle.pl_scan.specs.Dialect.{comment_of as scan_comment_of}
use Rattle.pl_rows.specs.Plan.{AreRising}
use Rattle.pl_options.specs.Text.{marks_of}
use Rattle.pl_read.proofs.ProjectionLaws.{projected-rises, projected-below}
use Rattle.pl_read.proofs.DataLaws.{readable-places, fault-at}
use Rattle.std.specs.Prelude.{IfOk}
use Rattle.pl_csv_c.proofs.ReadLaws.{straight-frame, straight-cause, sound-of, wanting-of}
use Rattle.pl_csv_c.proofs.StraightLaws.{plain-rows}
use Rattle.pl_csv_c.specs.Views.{IsFrameKept}
use Rattle.pl_rows.specs.Columns.{columns_in}
use Rattle.pl_rows.specs.Plan.{rules_of}
use Rattle.pl_rows.specs.Ranges.{range_frame, rows_read}
use Rattle.pl_csv_c.proofs.alone.read_arrays.Goals as goal

pub read_straight-requires-clause-dialect : goal.read_straight-requires-clause-dialect
read_straight-requires-clause-dialect c =
    let o = c.args.options.now in
    subst (λ m. IsDialect m (scan_comment_of c.args.plan.now.dialect)) (sym c.requires.can.plan_is.marks_are) (subst (IsDialect (marks_of o.parse_options)) (sym c.requires.can.plan_is.comment_is) c.requires.can.dialect)

pub read_straight-requires-clause-rising : goal.read_straight-requires-clause-rising
read_straight-requires-clause-rising c = subst (AreRising 0 (length c.args.schema.now)) (sym c.requires.can.plan_is.places_are) (projected-rises c.args.options.now c.args.schema.now)

pub read_straight-requires-clause-readable : goal.read_straight-requires-clause-readable
read_straight-requires-clause-readable c =
    readable-places c.args.schema.now c.args.plan.now.projection.places.now c.requires.can.readable (projected-below c.args.options.now c.args.schema.now c.args.plan.now.projection.places.now c.requires.can.plan_is.places_are)

pub returns-in-Fault-clause-refused : goal.returns-in-Fault-clause-refused
returns-in-Fault-clause-refused c =
    inl (fault-at c.args.plan.now c.args.options.now c.args.schema.now c.args.records.now c.in-Fault.row c.in-Fault.column c.in-Fault.kind c.requires.can.plan_is (sym c.in-Ok.ensures.end_is ∙ c.in-Fault.is))

pub returns-in-Closed : goal.returns-in-Closed
returns-in-Closed c =
    let plan = c.args.plan.now in
    let o = c.args.options.now in
    let schema = c.args.schema.now in
    let records = c.args.records.now in
    let end = c.in-Ok.read.end in
    let is = c.in-Ok.ensures in
    let places = plan.projection.places.now in
    let result = c.kept_arrays.result in
    let plain = plain-rows (rules_of plan) schema places (rows_read plan (columns_in schema places) records) c.requires.plain in
    let frame = straight-frame plan o schema records end c.requires.can.plan_is is.end_is c.in-Closed.is c.requires.index in
    let cause = straight-cause plan o schema records end c.requires.can.plan_is is.end_is c.in-Closed.is c.requires.index plain in
    record {
      kept = subst (λ f. IfOk result (IsFrameKept f)) frame (c.kept_arrays.ensures.kept (range_frame plan schema records) is.grown plain);
      sound = sound-of result cause;
      refused = wanting-of result _ c.kept_arrays.ensures.refused;
    }
