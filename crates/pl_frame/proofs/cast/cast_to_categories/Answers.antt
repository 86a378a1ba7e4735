use Rattle.std.proofs.Common.{◌∙◌, ap, refl}
use Rattle.pl_frame.specs.declared.data_type.DataType.TheVariants as dtype
use Rattle.pl_frame.specs.Columns.{text_cells}
use Rattle.pl_frame.proofs.CastLaws.{texts_cast, none_misfit}
use Rattle.pl_frame.proofs.cast.cast_to_categories.Goals as goal

pub returns-in-Ok-clause-column : goal.returns-in-Ok-clause-column
returns-in-Ok-clause-column c =
    let from = c.args.column.now.dtype in
    let values = c.args.column.now.values in
    let cells = ap text_cells c.in-Ok.ensures ∙ texts_cast from dtype.Categorical refl refl (λ t. refl) values (none_misfit from values c.requires.held) in
    c.from_categories.ensures.column ∙ (λ j. record { name = (c.in_ok-name.ensures.copied ∙ c.name.ensures) j; dtype = dtype.Categorical; values = cells j })
