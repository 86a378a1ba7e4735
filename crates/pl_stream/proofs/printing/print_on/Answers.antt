use Rattle.std.proofs.Common.{◌≡◌, ◌+◌, ◌-◌, ◌++◌, ℕ, List, map, take, drop, length, arith, refl, ap, ◌∙◌, length-drop}
use Rattle.std.proofs.lemmas.List.{length-take-le}
use Rattle.std.specs.Cow.{cow_slice_items}
use Rattle.std.specs.List.{concat}
use Rattle.pl_write.specs.Options.{cell_options}
use Rattle.pl_stream.proofs.PrintLaws.{front-count, printed-on}
use Rattle.pl_stream.proofs.printing.print_on.Goals as goal

pub overflow_add-result-2 : goal.overflow_add-result-2
overflow_add-result-2 c =
    let front = c.args.front in
    let piece = take (c.args.to - front.end) (drop front.end c.args.records.now) in
    let more = c.print_text-more.result in
    let few = front-count c.args.plan.now c.args.schema.now (cell_options c.args.options.now) piece more.end more.rows (concat (map cow_slice_items more.lines.items)) c.requires.can.dialect c.print_text-more.ensures in
    omega (arith, few, c.requires.few, c.print_text-more.ensures.within, length-take-le (c.args.to - front.end) (drop front.end c.args.records.now), length-drop front.end c.args.records.now, c.requires.within, c.requires.after)

pub returns-clause-printed : goal.returns-clause-printed
returns-clause-printed c = λ before one.
    let front = c.args.front in
    let more = c.print_text-more.result in
    printed-on c.args.plan.now c.args.schema.now (cell_options c.args.options.now) c.args.records.now before c.args.text.now.items c.append_all.new.text.items front
    (record { end = front.end + more.end; rows = front.rows + more.rows }) more.end more.rows (concat (map cow_slice_items more.lines.items)) c.requires.can.dialect one c.args.to c.requires.within c.requires.after c.print_text-more.ensures
    (c.in_ok-append_all.ensures ∙ ap (λ l. c.args.text.now.items ++ concat (map cow_slice_items l)) c.deref.ensures.value) refl refl

pub returns-clause-few : goal.returns-clause-few
returns-clause-few c =
    let front = c.args.front in
    let piece = take (c.args.to - front.end) (drop front.end c.args.records.now) in
    let more = c.print_text-more.result in
    omega (arith, front-count c.args.plan.now c.args.schema.now (cell_options c.args.options.now) piece more.end more.rows (concat (map cow_slice_items more.lines.items)) c.requires.can.dialect c.print_text-more.ensures, c.requires.few)
