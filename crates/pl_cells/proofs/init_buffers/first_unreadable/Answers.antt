use Rattle.std.proofs.Common.{ℕ, not, sym, ◌∙◌, ap}
use Rattle.pl_frame.specs.Types.{is_readable}
use Rattle.pl_cells.specs.InitBuffers.{entry_at}
use Rattle.pl_cells.proofs.PlaceLaws.{find_first, find_more}
use Rattle.pl_cells.proofs.init_buffers.first_unreadable.Goals as goal

pub returns-then-not-is_readable_at : goal.returns-then-not-is_readable_at
returns-then-not-is_readable_at c =
    find_first (λ (place : ℕ). not (is_readable (entry_at c.args.schema.now place).1)) c.args.projection.now c.loop-place.place-index 0 c.loop-place-test.true c.loop-place.invariant
    (ap not (sym c.is_readable_at.ensures) ∙ ap not c.if-not-is_readable_at.true)

pub loop-place-preserved : goal.loop-place-preserved
loop-place-preserved c =
    find_more (λ (place : ℕ). not (is_readable (entry_at c.args.schema.now place).1)) c.args.projection.now c.loop-place.place-index 0 c.loop-place-test.true c.loop-place.invariant
    (ap not (sym c.is_readable_at.ensures) ∙ ap not c.if-not-is_readable_at.false)
