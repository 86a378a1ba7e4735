use Rattle.std.proofs.Common.{rules, sym, subst, ◌-◌}
use Rattle.pl_stream.specs.Head.{IsReached}
use Rattle.pl_stream.specs.declared.head.Reached.{Reached}
use Rattle.pl_stream.specs.declared.place.Place.TheVariants as spot
use Rattle.pl_stream.proofs.HeadLaws.{reach_rows, reach_behind}
use Rattle.pl_stream.proofs.head.step.Goals as goal

pub returns-in_ok-whole_item-in-Rows-clause-reached : goal.returns-in_ok-whole_item-in-Rows-clause-reached
returns-in_ok-whole_item-in-Rows-clause-reached c =
    let it = c.in_ok-whole_item-in-Rows in
    let to : Reached = record { place = spot.Rows (c.in-Rows.left - 1); at = it.field-0 } in
    subst (λ p. IsReached c.args.options.now p c.args.bytes.now to) (sym c.in-Rows.is)
    (reach_rows c.args.options.now c.requires c.in-Rows.left it.field-0 c.args.bytes.now (search rules) it.ensures.some it.ensures.within)

pub returns-in_ok-whole_item-in-Behind-clause-reached : goal.returns-in_ok-whole_item-in-Behind-clause-reached
returns-in_ok-whole_item-in-Behind-clause-reached c =
    let it = c.in_ok-whole_item-in-Behind in
    let to : Reached = record { place = spot.Behind (c.in-Behind.left - 1); at = it.field-0 } in
    subst (λ p. IsReached c.args.options.now p c.args.bytes.now to) (sym c.in-Behind.is)
    (reach_behind c.args.options.now c.requires c.in-Behind.left it.field-0 c.args.bytes.now (search rules) it.ensures.some it.ensures.within)
