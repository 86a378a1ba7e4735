use Rattle.std.proofs.Common.{◌≤◌, sym, subst, arith}
use Rattle.std.specs.Prelude.{IfSome}
use Rattle.std.proofs.lemmas.List.{take_rest}
use Rattle.pl_write.specs.Options.{cell_options}
use Rattle.pl_regions.specs.Limits.{without_limit}
use Rattle.pl_regions.specs.Printing.{IsLeftBehind, IsPrintedFront}
use Rattle.pl_regions.proofs.PrintingLaws.{rows-fit, left-behind}
use Rattle.pl_regions.proofs.first_rows.print_limited_rest.Goals as goal

pub join_fronts-requires-clause-rows : goal.join_fronts-requires-clause-rows
join_fronts-requires-clause-rows g c =
    let plan = without_limit c.args.plan.now in
    let schema = c.args.schema.now in
    let o = cell_options c.args.options.now in
    let next = c.in_ok-next.next in
    rows-fit plan schema o c.requires.left.0 c.args.left.now c.args.front next c.requires.can.dialect c.requires.left.1
    (subst (λ p. IsPrintedFront p schema o c.args.left.now next) c.without_limit-all.ensures c.in_ok-next.ensures.front)

pub print_behind-requires-clause-few : goal.print_behind-requires-clause-few
print_behind-requires-clause-few g c =
    subst (λ most. IfSome most (λ limit. c.in_ok-front.front.rows ≤ limit)) (sym c.requires.limit) (omega (arith, c.in_ok-front.ensures.rows, c.in_ok-next.ensures.few, c.requires.few))

pub print_behind-requires-clause-left : goal.print_behind-requires-clause-left
print_behind-requires-clause-left g c =
    let plan = without_limit c.args.plan.now in
    let schema = c.args.schema.now in
    let o = cell_options c.args.options.now in
    let records = c.requires.left.0 in
    let next = c.in_ok-next.next in
    let more =
    left-behind plan schema o records c.args.left.now c.args.front next c.in_ok-front.front c.requires.can.dialect c.requires.left.1
    (subst (λ p. IsPrintedFront p schema o c.args.left.now next) c.without_limit-all.ensures c.in_ok-next.ensures.front)
    c.in_ok-front.ensures.end c.in_ok-front.ensures.rows c.in_ok-front.ensures.lines in
    (records, subst (IsLeftBehind plan schema o records c.in_ok-front.front) (sym (take_rest c.args.left.now next.end)) more)

pub returns : goal.returns
returns g c = λ records is.
    let plan = without_limit c.args.plan.now in
    let schema = c.args.schema.now in
    let o = cell_options c.args.options.now in
    let next = c.in_ok-next.next in
    let more =
    left-behind plan schema o records c.args.left.now c.args.front next c.in_ok-front.front c.requires.can.dialect is
    (subst (λ p. IsPrintedFront p schema o c.args.left.now next) c.without_limit-all.ensures c.in_ok-next.ensures.front)
    c.in_ok-front.ensures.end c.in_ok-front.ensures.rows c.in_ok-front.ensures.lines in
    c.print_behind.ensures records (subst (IsLeftBehind plan schema o records c.in_ok-front.front) (sym (take_rest c.args.left.now next.end)) more)
