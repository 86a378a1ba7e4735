use Rattle.std.proofs.Common.{length, arith}
use Rattle.std.specs.Prelude.{take, drop, ◌-◌}
use Rattle.std.proofs.lemmas.List.{take_rest}
use Rattle.pl_write.specs.Options.{cell_options}
use Rattle.pl_regions.specs.Printing.{IsLeftBehind}
use Rattle.pl_regions.proofs.PrintingLaws.{rows-fit}
use Rattle.pl_regions.proofs.LimitLaws.{joined-front}
use Rattle.pl_regions.proofs.first_rows.print_text_front.Goals as goal

pub join_fronts-requires-clause-rows : goal.join_fronts-requires-clause-rows
join_fronts-requires-clause-rows g c =
    let plan = c.args.plan.now in
    let schema = c.args.schema.now in
    let o = cell_options c.args.options.now in
    let text = c.args.text.now in
    let front = c.in_ok-front.front in
    let left = take (length text - front.end) (drop front.end text) in
    let is : IsLeftBehind plan schema o text front left = record { small = omega arith; printed = c.in_ok-front.ensures; left_is = take_rest text front.end } in
    rows-fit plan schema o text left front c.in_ok-next.next c.requires.can.dialect is c.in_ok-next.ensures

pub returns : goal.returns
returns g c =
    joined-front c.join_fronts.result c.args.plan.now c.args.schema.now (cell_options c.args.options.now) c.args.text.now c.in_ok-front.front c.in_ok-next.next c.requires.can.dialect (omega arith)
    c.in_ok-front.ensures c.in_ok-next.ensures c.join_fronts.ensures.end c.join_fronts.ensures.rows c.join_fronts.ensures.lines
