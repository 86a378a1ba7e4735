use Rattle.std.proofs.Common.{ap}
use Rattle.pl_cells.specs.BufferValue.{BufferValue}
use Rattle.pl_table.specs.Tables.{placed_text}
use Rattle.pl_cells.proofs.SeenLaws.{seen_adds, one_more}
use Rattle.pl_cells.proofs.value_buffer.ValueBuffer.add_between.Goals as goal

pub returns-in_ok-push-in-Some-parse_at-clause-seen : goal.returns-in_ok-push-in-Some-parse_at-clause-seen
returns-in_ok-push-in-Some-parse_at-clause-seen g c =
    seen_adds c.args.self.now _ c.args.quote_char (g.K.ValueType.dtype c.self.inside.kind) (placed_text c.args.field) (placed_text c.in-Some.text) (g.K.ValueType.scalar c.in-Some-parse_at.value)
    (ap (λ (b : BufferValue). b.dtype) c.self.view_is) (g.met.K.ValueType.no_text c.self.inside.kind) c.in-Some-parse_at.ensures.front c.in-Some-parse_at.ensures.back
    c.in-Some.ensures c.in-Some-parse_at.ensures.value
    (one_more c.args.self.now _ _ _ _ g.K.ValueType.scalar c.self.inside.values c.push.new.self c.in-Some-parse_at.value c.self.view_is c.in_ok-push-in-Some-parse_at.ensures.ok)
