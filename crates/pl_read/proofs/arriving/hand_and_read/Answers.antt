use Rattle.std.proofs.Common.{◌++◌, List, ℕ, length, sym, ◌∙◌, ap, not, subst, arith}
use Rattle.std.specs.List.{concat}
use Rattle.pl_intake.proofs.IntakeLaws.{IsReadOn-behind, ok-holds}
use Rattle.pl_rows.specs.Plan.{states}
use Rattle.pl_rows.proofs.FrameLaws.{written_back}
use Rattle.pl_rows.proofs.PlanLaws.{rising-below}
use Rattle.pl_read.specs.Arriving.{IsLinkedUpTo}
use Rattle.pl_read.proofs.ArrivingLaws.{IsLinkedUpTo-handed, HasInLine-linked, HasInLine-handed}
use Rattle.pl_read.proofs.arriving.hand_and_read.Goals as goal

pub empty_buffers-requires-clause-places : goal.empty_buffers-requires-clause-places
empty_buffers-requires-clause-places g c = rising-below 0 (length c.args.schema.now) c.args.plan.now.projection.places.now c.requires.can.rising

pub returns-in_err-hand_next-clause-read_on : goal.returns-in_err-hand_next-clause-read_on
returns-in_err-hand_next-clause-read_on g c = IsReadOn-behind _ _ _ _ c.loop.invariant.read_on.1 c.in_err-hand_next.ensures.read_on

pub loop-preserved-then-len-workers : goal.loop-preserved-then-len-workers
loop-preserved-then-len-workers g c =
    let left = g.So.Source.left in
    let plan = c.args.plan.now in
    let schema = c.args.schema.now in
    let old = c.loop.line in
    let line = c.link.new.self in
    let next = c.hand_next.new.pending in
    let handed = c.in_ok-hand_next.ensures.handed in
    let step : (text : List ℕ) → IsLinkedUpTo plan schema text (old.left.items ++ concat old.pending) old.linked → IsLinkedUpTo plan schema text (line.left.items ++ concat line.pending) line.linked =
    λ text up.
    ok-holds c.link.result _ (c.is_err.ensures.negation ∙ ap not c.if-is_err.false)
    (c.link.ensures text (subst (λ (pending : List (List ℕ)). IsLinkedUpTo plan schema text (old.left.items ++ concat pending) old.linked) (sym c.keep.ensures) up)) in
    let some = c.loop.invariant.some in
    record {
      empty = c.loop.invariant.empty;
      some = (some.0 ++ concat handed.more, IsLinkedUpTo-handed plan schema some.0 line.left.items line.pending handed.more next line.linked (step some.0 some.1) handed.are);
      line = λ before first has.
          HasInLine-handed plan schema before (left c.loop.source) (left c.hand_next.new.source) first c.loop.intake c.hand_next.new.intake line.linked line.left.items line.pending next
          (HasInLine-linked plan schema before (left c.loop.source) first c.loop.intake old.linked line.linked old.left.items line.left.items old.pending line.pending (c.loop.invariant.line before first has) step)
          handed;
      within = handed.given.gained.within;
      read_on = IsReadOn-behind _ _ _ _ c.loop.invariant.read_on.1 c.hand_next.ensures.read_on;
      later = omega (arith, c.loop.invariant.later, c.hand_next.ensures.later);
    }

pub loop-preserved-else-not-give_back : goal.loop-preserved-else-not-give_back
loop-preserved-else-not-give_back g c =
    let left = g.So.Source.left in
    let plan = c.args.plan.now in
    let schema = c.args.schema.now in
    let old = c.loop.line in
    let line = c.link.new.self in
    let step : (text : List ℕ) → IsLinkedUpTo plan schema text (old.left.items ++ concat old.pending) old.linked → IsLinkedUpTo plan schema text (line.left.items ++ concat line.pending) line.linked =
    λ text up.
    ok-holds c.link.result _ (c.is_err.ensures.negation ∙ ap not c.if-is_err.false)
    (c.link.ensures text (subst (λ (pending : List (List ℕ)). IsLinkedUpTo plan schema text (old.left.items ++ concat pending) old.linked) (sym c.keep.ensures) up)) in
    let some = c.loop.invariant.some in
    let back = written_back c.loop.buffers.items c.read_text.new.buffers c.loop.buffers.len (omega (arith, c.loop.buffers.ok, c.deref_mut.ensures.len)) (omega (arith, c.read_text.auto.buffers, c.deref_mut.ensures.len, c.loop.buffers.ok)) in
    record {
      empty = ap states back ∙ c.in-Some-read_text.ensures ∙ ap states c.deref_mut.ensures.value ∙ c.loop.invariant.empty;
      some = (some.0, step some.0 some.1);
      line = λ before first has.
          HasInLine-linked plan schema before (left c.loop.source) first c.loop.intake old.linked line.linked old.left.items line.left.items old.pending line.pending (c.loop.invariant.line before first has) step;
      within = c.loop.invariant.within;
      read_on = c.loop.invariant.read_on;
      later = c.loop.invariant.later;
    }
