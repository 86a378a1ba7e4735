use Rattle.std.proofs.Common.{[], sym, subst}
use Rattle.pl_read.specs.Arriving.{HasLinked}
use Rattle.pl_read.proofs.ArrivingLaws.{IsLinkedUpTo-same, IsLinkedUpTo-all, HasInLine-first, HasInLine-back}
use Rattle.pl_read.proofs.arriving.read_and_link.Goals as goal

pub read_in_line-requires-clause-line : goal.read_in_line-requires-clause-line
read_in_line-requires-clause-line g c κs within =
    let line = c.new-line.result in
    let new = c.new-line.ensures in
    let before = c.requires.linked in (
      before.0,
      IsLinkedUpTo-same c.args.plan.now c.args.schema.now before.0 [] line.left.items [] line.pending c.args.linked line.linked new.left new.pending new.linked
          (IsLinkedUpTo-all c.args.plan.now c.args.schema.now before.0 c.args.linked before.1),
    )

pub returns-in-Ok-clause-linked : goal.returns-in-Ok-clause-linked
returns-in-Ok-clause-linked g c = λ before first has.
    let left = g.So.Source.left in
    let plan = c.args.plan.now in
    let schema = c.args.schema.now in
    let line = c.new-line.result in
    let new = c.new-line.ensures in
    let last = c.in_ok-line.line in
    let at = HasInLine-first plan schema before (left c.args.source.now) first c.args.intake.now line.linked line.left.items line.pending
    (subst (HasLinked plan schema before (left c.args.source.now) first c.args.intake.now) (sym new.linked) has) new.left new.pending in
    subst (HasLinked plan schema before (left c.read_in_line.new.source) first c.put_back.new.intake) (sym c.in-Ok.ensures.linked)
    (HasInLine-back plan schema before (left c.read_in_line.new.source) first c.read_in_line.new.intake c.put_back.new.intake last.linked last.left.items last.pending (c.in_ok-line.ensures.line before first at)
    c.in-Ok.ensures.rest c.put_back.ensures.size c.put_back.ensures.ended)
