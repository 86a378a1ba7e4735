use Rattle.std.proofs.Common.{◌≡◌, length, sym, ◌∙◌, subst, arith}
use Rattle.std.specs.Prelude.{Some, None, filter, nat_le}
use Rattle.pl_frame.specs.declared.error.NamePlace.TheVariants as name_place
use Rattle.pl_frame.specs.declared.error.PolarsError.TheVariants as error
use Rattle.pl_options.specs.FirstCause.{IsFault}
use Rattle.pl_read.specs.Projection.{asked, outside, doubled}
use Rattle.pl_read.proofs.ProjectionLaws.{outside-is, greatest-none, found-below, doubled-is, projected-is, projection-doubled, projection-taken, projection-sound}
use Rattle.pl_read.proofs.projecting.projected_places.Goals as goal

pub times_asked-requires : goal.times_asked-requires
times_asked-requires c = greatest-none (filter (nat_le c.len-width.result) c.args.places.now) (sym c.greatest_outside.ensures ∙ c.in_default.is)

pub name_at-requires : goal.name_at-requires
name_at-requires c =
    let o = c.args.options.now in
    let schema = c.args.schema.now in
    let some : doubled (asked o schema) (length schema) ≡ Some c.in-Some-find_doubled.place =
    sym (doubled-is o schema c.args.places.now c.len-width.result c.deref.result.now c.requires c.len-width.ensures.len (c.deref.ensures.value ∙ c.in_ok-times.ensures.times)) ∙ sym c.find_doubled.ensures ∙ c.in-Some-find_doubled.is in
    omega (arith, found-below _ 0 (length schema) c.in-Some-find_doubled.place some)

pub check_index_name-requires : goal.check_index_name-requires
check_index_name-requires c =
    let o = c.args.options.now in
    let schema = c.args.schema.now in
    c.deref-3.ensures.value ∙ c.in_ok-read.ensures.places ∙ projected-is o schema c.args.places.now c.len-width.result c.deref-2.result.now c.requires c.len-width.ensures.len (c.deref-2.ensures.value ∙ c.in_ok-times.ensures.times)

pub returns-in-Some-find_doubled-clause-refused : goal.returns-in-Some-find_doubled-clause-refused
returns-in-Some-find_doubled-clause-refused c =
    let o = c.args.options.now in
    let schema = c.args.schema.now in
    let none : outside o schema ≡ None = sym (outside-is o schema c.args.places.now c.len-width.result c.requires c.len-width.ensures.len) ∙ sym c.greatest_outside.ensures ∙ c.in_default.is in
    let some : doubled (asked o schema) (length schema) ≡ Some c.in-Some-find_doubled.place =
    sym (doubled-is o schema c.args.places.now c.len-width.result c.deref.result.now c.requires c.len-width.ensures.len (c.deref.ensures.value ∙ c.in_ok-times.ensures.times)) ∙ sym c.find_doubled.ensures ∙ c.in-Some-find_doubled.is in
    projection-doubled o schema c.in-Some-find_doubled.place c.duplicate.result none some
    (subst (λ name. IsFault (Some (error.Duplicate name name_place.Projection)) c.duplicate.result) c.name_at.ensures c.duplicate.ensures)

pub returns-in-Ok-clause-sound : goal.returns-in-Ok-clause-sound
returns-in-Ok-clause-sound c =
    let o = c.args.options.now in
    let schema = c.args.schema.now in
    let none : outside o schema ≡ None = sym (outside-is o schema c.args.places.now c.len-width.result c.requires c.len-width.ensures.len) ∙ sym c.greatest_outside.ensures ∙ c.in_default.is in
    let single : doubled (asked o schema) (length schema) ≡ None =
    sym (doubled-is o schema c.args.places.now c.len-width.result c.deref.result.now c.requires c.len-width.ensures.len (c.deref.ensures.value ∙ c.in_ok-times.ensures.times)) ∙ sym c.find_doubled.ensures ∙ c.in_default-find_doubled.is in
    projection-sound o schema none single c.in-Ok.ensures.sound

pub returns-clause-refused : goal.returns-clause-refused
returns-clause-refused c =
    let o = c.args.options.now in
    let schema = c.args.schema.now in
    let none : outside o schema ≡ None = sym (outside-is o schema c.args.places.now c.len-width.result c.requires c.len-width.ensures.len) ∙ sym c.greatest_outside.ensures ∙ c.in_default.is in
    let single : doubled (asked o schema) (length schema) ≡ None =
    sym (doubled-is o schema c.args.places.now c.len-width.result c.deref.result.now c.requires c.len-width.ensures.len (c.deref.ensures.value ∙ c.in_ok-times.ensures.times)) ∙ sym c.find_doubled.ensures ∙ c.in_default-find_doubled.is in
    projection-taken o schema c.in-Err.fault none single c.in-Err.ensures.refused

pub returns-in-Ok-clause-places : goal.returns-in-Ok-clause-places
returns-in-Ok-clause-places c =
    let o = c.args.options.now in
    let schema = c.args.schema.now in
    c.in_ok-read.ensures.places ∙ projected-is o schema c.args.places.now c.len-width.result c.deref-2.result.now c.requires c.len-width.ensures.len (c.deref-2.ensures.value ∙ c.in_ok-times.ensures.times)
