use Rattle.std.proofs.Common.{◌∙◌, ap, sym, subst, arith}
use Rattle.pl_scan.specs.LineCuts.{RiseTo}
use Rattle.pl_board.proofs.RangeLaws.{ranges-rise, kept-one, kept-none, kept-all}
use Rattle.pl_board.proofs.ranges.range_ends.Goals as goal
use Rattle.pl_board.proofs.ranges.range_ends.Goals.{then-begins_item+in_ok-push, else-begins_item}

pub loop-number-preserved : goal.loop-number-preserved
loop-number-preserved c =
    let at = c.loop-number in
    elim c.if-begins_item.branch [
      | then-begins_item+in_ok-push w ↦ kept-one c.args.ends.now c.args.states.now at.number at.kept.items c.if-begins_item.kept.items (omega arith) c.requires (sym c.begins_item.ensures ∙ w.if-begins_item.true)
          (ap (λ v. v.items) w.kept-is ∙ w.in_ok-push.ensures.pushed) at.invariant
      | else-begins_item w ↦ kept-none c.args.ends.now c.args.states.now at.number at.kept.items c.if-begins_item.kept.items (omega arith) c.requires (sym c.begins_item.ensures ∙ w.if-begins_item.false)
          (ap (λ v. v.items) w.kept-is) at.invariant
    ]

pub returns-clause-rise : goal.returns-clause-rise
returns-clause-rise c = λ size rise.
    subst (RiseTo size 0) (sym (kept-all c.args.ends.now c.args.states.now c.loop-number.number c.loop-number.kept.items (omega arith) c.loop-number.invariant))
    (ranges-rise size 0 c.args.ends.now c.args.states.now c.requires rise)
