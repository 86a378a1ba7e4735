use Rattle.std.proofs.Common.{true, false, sym, ◌∙◌, subst}
use Rattle.std.specs.Option.{option_map}
use Rattle.pl_frame.specs.declared.error.NamePlace.TheVariants as name_place
use Rattle.pl_frame.specs.declared.error.PolarsError.TheVariants as error
use Rattle.pl_options.specs.FirstCause.{IsFault}
use Rattle.pl_read.proofs.ProjectionLaws.{projected-below, taken}
use Rattle.pl_read.proofs.projecting.check_index_name.Goals as goal

pub has_name-requires : goal.has_name-requires
has_name-requires c = projected-below c.args.options.now c.args.schema.now c.args.places.now c.requires

pub returns-then-has_name-clause-refused : goal.returns-then-has_name-clause-refused
returns-then-has_name-clause-refused c =
    subst (λ name. IsFault (option_map (λ name. error.Duplicate name name_place.Projection) name) c.duplicate.result)
    (sym (taken c.args.options.now c.args.schema.now c.in-Some.index c.args.places.now true c.in-Some.is c.requires (sym c.has_name.ensures ∙ c.if-has_name.true)))
    c.duplicate.ensures

pub returns-else-has_name-clause-sound : goal.returns-else-has_name-clause-sound
returns-else-has_name-clause-sound c = taken c.args.options.now c.args.schema.now c.in-Some.index c.args.places.now false c.in-Some.is c.requires (sym c.has_name.ensures ∙ c.if-has_name.false)
