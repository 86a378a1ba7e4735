use Rattle.std.specs.Prelude.{string_bytes}
use Rattle.pl_frame.proofs.SchemaLaws.{keys_distinct}
use Rattle.pl_frame.proofs.schema.Schema.len.Goals as goal

pub returns-clause-distinct : goal.returns-clause-distinct
returns-clause-distinct c =
    keys_distinct string_bytes (λ field. field.name) (λ field. field.dtype) _ _ _ c.self.invariant c.self.view_is c.len.ensures.unique
