use Rattle.std.proofs.Common.{◌∙◌, ap, sym, subst, Some}
use Rattle.pl_frame.specs.declared.data_type.DataType.TheVariants as dtype
use Rattle.pl_frame.specs.Categories.{AreCodes, decoded}
use Rattle.pl_frame.specs.Columns.{text_cells}
use Rattle.pl_frame.proofs.CastLaws.{places_cast, places_coded, none_misfit, held_as}
use Rattle.pl_frame.proofs.cast.cast_to_enum.Goals as goal

pub from_enum-requires-clause-places : goal.from_enum-requires-clause-places
from_enum-requires-clause-places c =
    let from = c.args.column.now.dtype in
    subst (λ k. AreCodes k c.in-Ok.places) (sym c.in_ok-try_clone.ensures.equal)
    (subst (AreCodes c.args.categories.now) (sym c.in-Ok.ensures) (places_coded from c.args.categories.now c.args.column.now.values))

pub from_enum-requires-clause-held : goal.from_enum-requires-clause-held
from_enum-requires-clause-held c =
    let from = c.args.column.now.dtype in
    let values = c.args.column.now.values in
    held_as (dtype.Enum (Some c.args.categories.now)) _ values _ (ap (λ k. dtype.Enum (Some k)) c.in_ok-try_clone.ensures.equal)
    ((λ j. text_cells (decoded (c.in_ok-try_clone.ensures.equal j) (c.in-Ok.ensures j)))
    ∙ places_cast from c.args.categories.now values (none_misfit from values c.requires.held))

pub returns-in-Ok-clause-column : goal.returns-in-Ok-clause-column
returns-in-Ok-clause-column c =
    let from = c.args.column.now.dtype in
    let values = c.args.column.now.values in
    let cells = (λ j. text_cells (decoded (c.in_ok-try_clone.ensures.equal j) (c.in-Ok.ensures j)))
    ∙ places_cast from c.args.categories.now values (none_misfit from values c.requires.held) in
    c.from_enum.ensures
    ∙ (λ j. record { name = (c.in_ok-name.ensures.copied ∙ c.name.ensures) j; dtype = dtype.Enum (Some (c.in_ok-try_clone.ensures.equal j)); values = cells j })
