use Rattle.std.proofs.Common.{List, ℕ, Global, map, length, ap, arith}
use Rattle.std.specs.Cow.{cow_slice_items}
use Rattle.std.specs.List.{concat}
use Rattle.std.specs.declared.borrow.CowSlice.{CowSlice}
use Rattle.std.specs.Prelude.{take, drop, ◌-◌}
use Rattle.pl_write.specs.Options.{cell_options}
use Rattle.pl_regions.proofs.RegionLaws.{unread}
use Rattle.pl_regions.proofs.LimitLaws.{front-of-first, front-joined}
use Rattle.pl_regions.proofs.first_rows.print_first.Goals as goal

pub loop-init : goal.loop-init
loop-init g c = record {
  printed =
      unread c.args.plan.now c.args.schema.now (cell_options c.args.options.now) c.args.records.now c.new-front.result.end c.new-front.result.rows _ c.new-front.ensures.end c.new-front.ensures.rows
      (ap (λ (l : List (CowSlice ℕ Global)). concat (map cow_slice_items l)) c.new-front.ensures.lines);
  few = omega (arith, c.new-front.ensures.rows);
}

pub returns-then-is_short-clause-front : goal.returns-then-is_short-clause-front
returns-then-is_short-clause-front g c =
    let plan = c.args.plan.now in
    let schema = c.args.schema.now in
    let o = cell_options c.args.options.now in
    let records = c.args.records.now in
    let left = take (length records - c.loop.front.end) (drop c.loop.front.end records) in
    let next = c.in_ok-next.next in
    front-joined plan schema o records c.loop.front next c.in_ok-front.front c.requires.can.dialect (omega arith) c.loop.invariant.printed
    (front-of-first plan schema o left c.guess_len-len.result next.end next.rows (concat (map cow_slice_items next.lines.items)) c.in_ok-next.ensures)
    c.in_ok-front.ensures.end c.in_ok-front.ensures.rows c.in_ok-front.ensures.lines

pub loop-preserved : goal.loop-preserved
loop-preserved g c =
    let plan = c.args.plan.now in
    let schema = c.args.schema.now in
    let o = cell_options c.args.options.now in
    let records = c.args.records.now in
    let left = take (length records - c.loop.front.end) (drop c.loop.front.end records) in
    let next = c.in_ok-next.next in
    record {
      printed =
          front-joined plan schema o records c.loop.front next c.in_ok-front.front c.requires.can.dialect (omega arith) c.loop.invariant.printed
          (front-of-first plan schema o left c.guess_len-len.result next.end next.rows (concat (map cow_slice_items next.lines.items)) c.in_ok-next.ensures)
          c.in_ok-front.ensures.end c.in_ok-front.ensures.rows c.in_ok-front.ensures.lines;
      few = omega (arith, c.in_ok-front.ensures.rows, c.if-next-rows.false, c.loop.invariant.few);
    }
