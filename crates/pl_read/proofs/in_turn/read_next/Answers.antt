use Rattle.std.proofs.Common.{◌++◌, List, ℕ, subst}
use Rattle.pl_read.specs.Arriving.{IsLinkedOn}
use Rattle.pl_read.proofs.ArrivingLaws.{HasLinked-more}
use Rattle.pl_read.proofs.in_turn.read_next.Goals as goal

pub returns-in-Ok-true-clause-linked : goal.returns-in-Ok-true-clause-linked
returns-in-Ok-true-clause-linked g c = λ before first has.
    let plan = c.args.plan.now in
    let schema = c.args.schema.now in
    let next = c.next_text.new.self in
    HasLinked-more plan schema before (g.So.Source.left c.args.source.now) (g.So.Source.left c.next_text.new.source) first c.args.intake.now next c.link_text.new.intake c.args.linked.now c.link_text.new.linked c.in_ok-text.text.items
    has c.in_ok-text.ensures.given
    (subst (λ (t : List ℕ). IsLinkedOn plan schema (has.text ++ t) next c.link_text.new.intake c.link_text.new.linked) c.deref.ensures.value (c.in-Ok-true.ensures.linked has.text has.is))

pub returns-in-Ok-false-clause-linked : goal.returns-in-Ok-false-clause-linked
returns-in-Ok-false-clause-linked g c = λ before first has.
    let plan = c.args.plan.now in
    let schema = c.args.schema.now in
    let next = c.next_text.new.self in
    HasLinked-more plan schema before (g.So.Source.left c.args.source.now) (g.So.Source.left c.next_text.new.source) first c.args.intake.now next c.link_text.new.intake c.args.linked.now c.link_text.new.linked c.in_ok-text.text.items
    has c.in_ok-text.ensures.given
    (subst (λ (t : List ℕ). IsLinkedOn plan schema (has.text ++ t) next c.link_text.new.intake c.link_text.new.linked) c.deref.ensures.value (c.in-Ok-false.ensures.linked has.text has.is))
