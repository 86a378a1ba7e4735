use Rattle.std.proofs.Common.{sym, subst}
use Rattle.std.proofs.lemmas.List.{take_rest}
use Rattle.pl_write.specs.Options.{cell_options}
use Rattle.pl_regions.specs.Printing.{IsLeftBehind}
use Rattle.pl_regions.proofs.PrintingLaws.{rows-fit, left-behind}
use Rattle.pl_regions.proofs.printing.print_rest.Goals as goal

pub join_fronts-requires-clause-rows : goal.join_fronts-requires-clause-rows
join_fronts-requires-clause-rows g c =
    rows-fit c.args.plan.now c.args.schema.now (cell_options c.args.options.now) c.requires.left.0 c.args.left.now c.args.front c.in_ok-next.next c.requires.can.dialect c.requires.left.1 c.in_ok-next.ensures

pub print_last-requires-2-clause-left : goal.print_last-requires-2-clause-left
print_last-requires-2-clause-left g c =
    let plan = c.args.plan.now in
    let schema = c.args.schema.now in
    let o = cell_options c.args.options.now in
    let records = c.requires.left.0 in
    let is =
    left-behind plan schema o records c.args.left.now c.args.front c.in_ok-next.next c.in_ok-front.front c.requires.can.dialect c.requires.left.1 c.in_ok-next.ensures
    c.in_ok-front.ensures.end c.in_ok-front.ensures.rows c.in_ok-front.ensures.lines in
    (records, subst (IsLeftBehind plan schema o records c.in_ok-front.front) (sym (take_rest c.args.left.now c.in_ok-next.next.end)) is)

pub returns : goal.returns
returns g c = λ records is.
    let plan = c.args.plan.now in
    let schema = c.args.schema.now in
    let o = cell_options c.args.options.now in
    let more =
    left-behind plan schema o records c.args.left.now c.args.front c.in_ok-next.next c.in_ok-front.front c.requires.can.dialect is c.in_ok-next.ensures
    c.in_ok-front.ensures.end c.in_ok-front.ensures.rows c.in_ok-front.ensures.lines in
    c.print_last-2.ensures records (subst (IsLeftBehind plan schema o records c.in_ok-front.front) (sym (take_rest c.args.left.now c.in_ok-next.next.end)) more)
