use Rattle.std.proofs.Common.{◌≡◌, Some, sym, ◌∙◌, subst}
use Rattle.pl_frame.specs.declared.data_type.DataType.TheVariants as dtype
use Rattle.pl_frame.specs.Categories.{decoded}
use Rattle.pl_frame.specs.Columns.{text_cells, HoldsType}
use Rattle.pl_cells.proofs.enum_texts.EnumTextsTextType.column.Goals as goal

pub from_enum-requires-clause-held : goal.from_enum-requires-clause-held
from_enum-requires-clause-held c =
    subst (λ texts. HoldsType (dtype.Enum (Some texts)) (text_cells (decoded texts c.self.inside.places))) (sym c.into_texts.ensures) c.self.invariant.held

pub returns : goal.returns
returns c =
    c.from_enum.ensures
    ∙ (λ j. record { name = c.args.name; dtype = dtype.Enum (Some (c.into_texts.ensures j)); values = text_cells (decoded (c.into_texts.ensures j) c.self.inside.places) })
    ∙ (λ j. record { name = c.args.name; dtype = dtype.Enum (Some (c.self.view_is j).categories); values = text_cells (c.self.view_is j).texts })
