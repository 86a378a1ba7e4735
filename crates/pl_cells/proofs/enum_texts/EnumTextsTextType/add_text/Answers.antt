use Rattle.std.proofs.Common.{sym, ◌∙◌, ap, refl, Some}
use Rattle.pl_cells.specs.EnumPlaces.{EnumValue}
use Rattle.pl_frame.specs.declared.data_type.DataType.TheVariants as dtype
use Rattle.pl_cells.specs.Cells.{category_cell}
use Rattle.pl_cells.proofs.BufferLaws.{added_text}
use Rattle.pl_cells.proofs.EnumLaws.{enum_some, enum_none}
use Rattle.pl_cells.proofs.enum_texts.EnumTextsTextType.add_text.Goals as goal

pub returns-in-None-clause-answers : goal.returns-in-None-clause-answers
returns-in-None-clause-answers c = λ missing ignore.
    (enum_none c.args.self.now.categories c.args.text.now c.in-Some.text.now c.in-Some.ensures.0 c.in-Some.ensures.1 (sym c.place_of.ensures ∙ c.in-None.is), refl)

pub returns-clause-answers : goal.returns-clause-answers
returns-clause-answers c = λ missing ignore.
    added_text c.args.self.now.texts c.push_place.new.self.texts c.args.text.now c.in-Some.text.now (category_cell (dtype.Enum (Some c.args.self.now.categories)) c.args.text.now)
    (ap (λ (v : EnumValue). v.texts) c.in_ok-push_place-in-Some-place_of.ensures.ok) c.in-Some.ensures.1
    (enum_some c.args.self.now.categories c.args.text.now c.in-Some.text.now c.in-Some-place_of.place c.in-Some.ensures.0 c.in-Some.ensures.1 (sym c.place_of.ensures ∙ c.in-Some-place_of.is))
