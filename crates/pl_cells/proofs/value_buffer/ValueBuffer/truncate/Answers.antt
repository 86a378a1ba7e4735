use Rattle.std.specs.Option.{option_map}
use Rattle.pl_cells.proofs.CutLaws.{holds_cut, buffer_cut}
use Rattle.pl_cells.proofs.value_buffer.ValueBuffer.truncate.Goals as goal

pub invariant_of-self : goal.invariant_of-self
invariant_of-self g c =
    holds_cut (g.K.ValueType.dtype c.self.inside.kind) (option_map g.K.ValueType.scalar) c.args.len c.self.inside.values c.truncate.new.self c.self.invariant c.truncate.ensures

pub returns : goal.returns
returns g c =
    buffer_cut c.args.self.now _ _ _ _ (option_map g.K.ValueType.scalar) c.args.len c.self.inside.values c.truncate.new.self c.self.view_is c.truncate.ensures
