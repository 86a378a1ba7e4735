use Rattle.std.proofs.Common.{Bool, refl, inl, subst}
use Rattle.std.specs.Bool.{OnTrue}
use Rattle.pl_read.proofs.ProjectionLaws.{projected-below}
use Rattle.pl_csv.specs.Converting.{HaveCodes}
use Rattle.pl_csv.proofs.ConvertLaws.{can-print, none-is-frame, data-text, data-sound, data-fault}
use Rattle.pl_csv.specs.declared.convert.Printed.{Printed}
use Rattle.pl_csv.proofs.convert.read_printed.Goals as goal

pub returns-in-Fault-clause-refused : goal.returns-in-Fault-clause-refused
returns-in-Fault-clause-refused c = λ records is.
    inl (data-fault c.args.plan.now c.args.read.now c.args.schema.now c.args.write.now records c.args.rows c.in-Fault.row c.in-Fault.column c.in-Fault.kind is c.in-Fault.is)

pub have_codes-requires : goal.have_codes-requires
have_codes-requires c =
    let is = c.requires.printed.1 in
    projected-below c.args.read.now c.args.schema.now c.args.plan.now.projection.places.now is.can.plan_is.places_are

pub frame_of_none-requires-clause-can : goal.frame_of_none-requires-clause-can
frame_of_none-requires-clause-can c =
    let is = c.requires.printed.1 in
    can-print c.args.plan.now c.args.read.now c.args.schema.now c.requires.printed.0 is.can

pub frame_of_none-requires-clause-frame : goal.frame_of_none-requires-clause-frame
frame_of_none-requires-clause-frame c = none-is-frame c.args.plan.now c.args.read.now c.args.schema.now c.args.write.now c.requires.printed.0 c.args.rows c.requires.printed.1

pub returns-clause-text : goal.returns-clause-text
returns-clause-text c = λ records is.
    let made : Printed = record { lines = c.args.rows.lines; numbers = c.first_number.result; rest = c.in-Ok.rest } in
    data-text c.args.plan.now c.args.read.now c.args.schema.now c.args.write.now records c.args.rows made is c.in-Closed.is refl c.first_number.ensures c.in-Ok.ensures

pub returns-clause-sound : goal.returns-clause-sound
returns-clause-sound c = λ records is. data-sound c.args.plan.now c.args.read.now c.args.schema.now c.args.write.now records c.args.rows is c.in-Closed.is
    (subst (λ (t : Bool). OnTrue t (HaveCodes c.args.schema.now c.args.plan.now.projection.places.now c.args.rows.rows)) c.if-not-have_codes.false c.have_codes.ensures)
