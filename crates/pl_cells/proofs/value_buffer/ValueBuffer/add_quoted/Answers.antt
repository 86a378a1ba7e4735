use Rattle.std.proofs.Common.{true, ap}
use Rattle.pl_cells.specs.BufferValue.{BufferValue}
use Rattle.pl_cells.proofs.BufferLaws.{answers_quoted}
use Rattle.pl_cells.proofs.value_buffer.ValueBuffer.add_quoted.Goals as goal

pub returns : goal.returns
returns g c =
    answers_quoted c.args.self.now c.add_value.new.self _ c.args.text.now c.value_text-text.result.now c.args.ignore_errors true c.args.quote c.add_value.result
    (ap (λ (b : BufferValue). b.dtype) c.self.view_is) c.value_text-text.ensures (g.met.K.ValueType.no_text c.self.inside.kind) c.add_value.ensures
