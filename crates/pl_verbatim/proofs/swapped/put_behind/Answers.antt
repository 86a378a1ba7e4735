-- What stands in front stays.
use Rattle.std.proofs.Common.{◌≤◌, ◌∙◌, length, arith}
use Rattle.pl_verbatim.proofs.FrontKeptLaws.{front-shorter, front-kept, put-behind}
use Rattle.pl_verbatim.proofs.RowChangeLaws.{grown, stays}
use Rattle.pl_verbatim.proofs.swapped.put_behind.Goals as goal

pub returns-clause-after : goal.returns-clause-after
returns-clause-after c =
    let place = c.args.place in
    let behind = c.in_ok-behind.behind in
    let first = c.put_swapped.new.out in
    let high : behind ≤ length first = omega (arith, c.in_ok-behind.ensures.within) in
    let low : place ≤ behind = put-behind place behind c.args.out.now first _ c.requires.place high c.in_ok-behind.ensures.text in
    grown c.put_value.result c.args.text.now c.args.at c.args.kind c.args.mark c.args.separator c.args.quote c.args.form.now place behind first c.put_value.new.out low high c.put_value.ensures.put
    c.put_value.ensures.within

pub returns-clause-kept : goal.returns-clause-kept
returns-clause-kept c =
    let place = c.args.place in
    let behind = c.in_ok-behind.behind in
    let first = c.put_swapped.new.out in
    let high : behind ≤ length first = omega (arith, c.in_ok-behind.ensures.within) in
    front-shorter place behind c.put_value.new.out first (put-behind place behind c.args.out.now first _ c.requires.place high c.in_ok-behind.ensures.text)
    (stays c.put_value.result c.args.text.now c.args.at c.args.kind c.args.mark c.args.separator c.args.quote c.args.form.now behind first c.put_value.new.out high c.put_value.ensures.put c.put_value.ensures.within
    c.put_value.ensures.unchanged)
    ∙ front-kept place behind c.args.out.now first _ c.requires.place high c.in_ok-behind.ensures.text
