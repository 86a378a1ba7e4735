use Rattle.std.proofs.Common.{sym, ◌∙◌, ap}
use Rattle.std.specs.Option.{option_map}
use Rattle.pl_cells.specs.BufferValue.{BufferValue}
use Rattle.pl_cells.proofs.JoinLaws.{holds-after}
use Rattle.pl_cells.proofs.value_buffer.ValueBuffer.append.Goals as goal

pub invariant_of-self : goal.invariant_of-self
invariant_of-self g c =
    holds-after c.append.result (g.K.ValueType.dtype c.self.inside.kind) (g.K.ValueType.dtype c.other.inside.kind) (option_map g.K.ValueType.scalar) c.self.inside.values c.other.inside.values
    c.append.new.self c.self.invariant c.other.invariant
    (ap (λ (b : BufferValue). b.dtype) c.self.view_is ∙ c.requires ∙ sym (ap (λ (b : BufferValue). b.dtype) c.other.view_is))
    c.append.ensures.ok c.append.ensures.err
