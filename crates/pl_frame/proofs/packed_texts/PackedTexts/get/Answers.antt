use Rattle.std.proofs.Common.{arith, ◌<◌, length}
use Rattle.pl_frame.proofs.PackedLaws.{packed, packed_ordered, packed_utf8, packed_set, packed_past}
use Rattle.pl_frame.proofs.packed_texts.PackedTexts.get.Goals as goal
use Rattle.pl_frame.proofs.packed_texts.PackedTexts.get.Goals.{else-i-len-via-then-i-len+else-not-index, else-i-len-via-else-i-len}

pub text_between-requires-clause-ordered : goal.text_between-requires-clause-ordered
text_between-requires-clause-ordered c =
    let within : c.args.i < length c.self.inside.ends.items = grind (arith, packed) in
    rw c.deref-else-i-len.ensures.value
    (packed_ordered c.self.inside.bytes.items c.self.inside.ends.items c.self.inside.present.items c.args.i c.short_begin_of-begin.result
    c.index-else-i-len.result.now c.self.invariant within (rw c.deref.ensures.value at c.short_begin_of-begin.ensures) c.index-else-i-len.ensures)

pub text_between-requires-clause-text : goal.text_between-requires-clause-text
text_between-requires-clause-text c =
    let within : c.args.i < length c.self.inside.ends.items = grind (arith, packed) in
    rw c.deref-else-i-len.ensures.value
    (packed_utf8 c.self.inside.bytes.items c.self.inside.ends.items c.self.inside.present.items c.args.i c.short_begin_of-begin.result
    c.index-else-i-len.result.now c.self.invariant within (rw c.deref.ensures.value at c.short_begin_of-begin.ensures) c.index-else-i-len.ensures)

pub returns-else-i-len-clause-text : goal.returns-else-i-len-clause-text
returns-else-i-len-clause-text c =
    let within : c.args.i < length c.self.inside.ends.items = grind (arith, packed) in
    let begin = rw c.deref.ensures.value at c.short_begin_of-begin.ensures in
    rw (c.text_between.ensures, c.deref-else-i-len.ensures.value, ← c.self.view_is)
    (elim c.else-i-len.branch [
      | else-i-len-via-then-i-len+else-not-index w ↦
          packed_set c.self.inside.bytes.items c.self.inside.ends.items c.self.inside.present.items c.args.i c.short_begin_of-begin.result
          c.index-else-i-len.result.now c.self.invariant within begin c.index-else-i-len.ensures w.index.result.now (omega arith) w.index.ensures w.if-not-index.false
      | else-i-len-via-else-i-len w ↦
          packed_past c.self.inside.bytes.items c.self.inside.ends.items c.self.inside.present.items c.args.i c.short_begin_of-begin.result
          c.index-else-i-len.result.now c.self.invariant within begin c.index-else-i-len.ensures (omega arith)
    ])
