use Rattle.std.proofs.Common.{refl, ◌∙◌}
use Rattle.std.specs.Cmp.Lexicographic.{pointwise}
use Rattle.pl_frame.specs.Equal.{entries_equal}
use Rattle.pl_frame.proofs.AlikeLaws.{pointwise-map}
use Rattle.pl_frame.proofs.schema.SchemaPartialEq.eq.Goals as goal

pub returns : goal.returns
returns c =
    c.eq.ensures
    ∙ pointwise-map (λ field. (field.name, field.dtype)) _ entries_equal (λ a b. refl) c.self.inside.fields.items c.other.inside.fields.items
    ∙ (λ j. pointwise entries_equal (c.self.view_is j) (c.other.view_is j))
