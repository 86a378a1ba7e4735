use Rattle.std.proofs.Common.{ap}
use Rattle.pl_cells.specs.BufferValue.{BufferValue}
use Rattle.pl_cells.proofs.BufferLaws.{answers_plain}
use Rattle.pl_cells.proofs.value_buffer.ValueBuffer.add_plain.Goals as goal

pub returns : goal.returns
returns g c =
    answers_plain c.args.self.now c.add_value.new.self _ c.args.text.now c.value_text-text.result.now c.args.ignore_errors c.args.missing_is_null c.add_value.result
    (ap (λ (b : BufferValue). b.dtype) c.self.view_is) c.value_text-text.ensures (g.met.K.ValueType.no_text c.self.inside.kind) c.add_value.ensures
