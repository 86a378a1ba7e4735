use Rattle.std.proofs.Common.{◌≡◌, ◌+◌, length, take, count_by, is_none, ◌∙◌, ap, arith}
use Rattle.pl_frame.specs.Parts.{part_cells, parts_cells}
use Rattle.pl_frame.proofs.PartsLaws.{nulls-step, nulls-within}
use Rattle.pl_frame.proofs.parts.Parts.null_count.Goals as goal

pub overflow_add-nulls : goal.overflow_add-nulls
overflow_add-nulls c =
    let step = nulls-step c.deref-part-items.result.now c.loop-part.part-index c.part-item.result c.loop-part-test.true c.part-item.is in
    let within = nulls-within c.deref-part-items.result.now (c.loop-part.part-index + 1) in
    let all : length (parts_cells c.deref-part-items.result.now) ≡ length c.args.self.now = ap (λ parts. length (parts_cells parts)) c.deref-part-items.ensures.value ∙ ap length c.self.view_is in
    omega (arith, step, within, all, c.len-len.ensures, c.null_count-nulls.ensures, c.loop-part.invariant)
