use Rattle.std.proofs.Common.{None, Some, sym, ◌∙◌, ap, arith}
use Rattle.std.specs.Option.{option_map}
use Rattle.pl_frame.specs.declared.data_type.DataType.TheVariants as dtype
use Rattle.std.proofs.lemmas.List.{get_or_default}
use Rattle.pl_frame.specs.Columns.{misfits}
use Rattle.pl_frame.specs.Frame.{Letters}
use Rattle.pl_frame.proofs.CellLaws.{all_hold, first_of}
use Rattle.pl_frame.proofs.ColumnLaws.{position-found, true_from_not}
use Rattle.pl_frame.proofs.constructors.collect_places.Goals as goal

pub returns-then-not-branch-clause-refused : goal.returns-then-not-branch-clause-refused
returns-then-not-branch-clause-refused c =
    first_of Letters (dtype.Enum (Some c.args.categories.now)) c.args.values.now
    ∙ position-found (λ x. misfits (dtype.Enum (Some c.args.categories.now)) (option_map Letters x)) c.args.values.now c.loop-row.row None (omega arith) c.loop-row.invariant.inside
    (ap (λ x. misfits (dtype.Enum (Some c.args.categories.now)) (option_map Letters x)) (sym (c.index-values-row.is ∙ get_or_default c.args.values.now c.loop-row.row c.index-values-row.result None (omega arith)))
    ∙ true_from_not _ (sym c.in_ok-push_place.ensures.tested ∙ c.if-not-branch.true))

pub returns-clause-in_range : goal.returns-clause-in_range
returns-clause-in_range c = all_hold Letters (dtype.Enum (Some c.args.categories.now)) c.args.values.now (λ k h. c.loop-row.invariant.inside k (omega arith))
