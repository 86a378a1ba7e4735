use Rattle.std.proofs.Common.{sym, ◌∙◌, ap}
use Rattle.pl_cells.specs.EnumPlaces.{EnumValue}
use Rattle.pl_cells.proofs.JoinLaws.{places-joined}
use Rattle.pl_cells.proofs.enum_texts.EnumTexts.append.Goals as goal

pub invariant_of-self : goal.invariant_of-self
invariant_of-self c =
    places-joined c.append.result c.self.inside.categories c.other.inside.categories c.self.inside.places c.other.inside.places c.append.new.self c.self.invariant c.other.invariant
    (ap (λ (v : EnumValue). v.categories) c.self.view_is ∙ c.requires ∙ sym (ap (λ (v : EnumValue). v.categories) c.other.view_is))
    c.append.ensures.ok c.append.ensures.err
