use Rattle.std.proofs.Common.{length, ◌∙◌, ap, arith}
use Rattle.pl_rows.specs.Plan.{states}
use Rattle.pl_rows.proofs.FrameLaws.{written_back}
use Rattle.pl_rows.proofs.PlanLaws.{rising-below}
use Rattle.pl_read.proofs.arriving.read_waiting.Goals as goal

pub empty_buffers-requires-clause-places : goal.empty_buffers-requires-clause-places
empty_buffers-requires-clause-places g c = rising-below 0 (length c.args.schema.now) c.args.plan.now.projection.places.now c.requires.can.rising

pub loop-preserved : goal.loop-preserved
loop-preserved g c =
    let back = written_back c.loop.buffers.items c.read_text.new.buffers c.loop.buffers.len (omega (arith, c.loop.buffers.ok, c.deref_mut.ensures.len)) (omega (arith, c.read_text.auto.buffers, c.deref_mut.ensures.len, c.loop.buffers.ok)) in
    ap states back ∙ c.in-Some-read_text.ensures ∙ ap states c.deref_mut.ensures.value ∙ c.loop.invariant
