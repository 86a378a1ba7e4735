use Rattle.std.proofs.Common.{◌∷◌, [], ◌++◌, ◌∙◌, ap}
use Rattle.std.specs.Prelude.{string_bytes}
use Rattle.pl_frame.proofs.SchemaLaws.{keys_pushed}
use Rattle.pl_frame.proofs.schema.Schema.push.Goals as goal

pub invariant_of-self-2 : goal.invariant_of-self-2
invariant_of-self-2 c =
    keys_pushed string_bytes (λ field. field.name) (λ field. field.dtype) _ _ _ c.self.invariant c.self.view_is c.in-Ok.key _ _ _
    (c.in-Ok.ensures.ok ∙ c.as_str.ensures) c.requires c.in-Ok-insert.ensures.keys
    (c.push_reserved.ensures.items ∙ ap (λ fields. fields ++ record { name = c.args.name; dtype = c.args.dtype } ∷ []) c.reserve.ensures.items)
