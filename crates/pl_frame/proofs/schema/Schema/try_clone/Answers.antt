use Rattle.std.proofs.Common.{◌∙◌, ap, sym, map}
use Rattle.std.specs.Prelude.{string_bytes}
use Rattle.pl_frame.proofs.SchemaLaws.{keys_cloned}
use Rattle.pl_frame.proofs.schema.Schema.try_clone.Goals as goal

pub invariant_of-result : goal.invariant_of-result
invariant_of-result c =
    keys_cloned string_bytes c.self.inside.places.keys c.in-Ok.places.keys c.in-Ok.ensures.cases ∙ c.self.invariant
    ∙ ap (map (λ field. field.name)) (sym (c.in_ok-fields.ensures.equal ∙ c.deref.ensures.value))
