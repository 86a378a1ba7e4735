use Rattle.std.proofs.Common.{◌∙◌, Some, IfErr, subst}
use Rattle.pl_frame.specs.declared.data_type.DataType.TheVariants as dtype
use Rattle.pl_frame.specs.Columns.{text_cells, first_misfit, IsFirstFault}
use Rattle.pl_frame.proofs.constructors.places_of.Goals as goal

pub returns-clause-refused : goal.returns-clause-refused
returns-clause-refused c =
    subst (λ k. IfErr c.collect_places.result (IsFirstFault (first_misfit (dtype.Enum (Some k)) (text_cells c.args.values.now)))) (c.in_ok-categories.ensures ∙ c.texts.ensures)
    c.collect_places.ensures.refused
