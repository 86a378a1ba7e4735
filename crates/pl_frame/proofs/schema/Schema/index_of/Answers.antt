use Rattle.std.proofs.Common.{◌∙◌}
use Rattle.std.specs.Prelude.{string_bytes}
use Rattle.pl_frame.proofs.SchemaLaws.{keys_place}
use Rattle.pl_frame.proofs.schema.Schema.index_of.Goals as goal

pub returns : goal.returns
returns c =
    c.get_index_of.ensures.index
    ∙ keys_place string_bytes (λ field. field.name) (λ field. field.dtype) _ _ _ c.self.invariant c.self.view_is c.args.name.now
