use Rattle.std.proofs.Common.{◌≡◌, ◌∙◌, true, drop, ap, sym, subst, arith}
use Rattle.std.proofs.lemmas.List.{length-drop, take_rest}
use Rattle.pl_cells.specs.Columns.{begins_number}
use Rattle.pl_cells.specs.Dates.{date_value}
use Rattle.pl_cells.specs.Lanes.{HasDateDigits}
use Rattle.pl_cells.specs.Quoting.{strip}
use Rattle.pl_cells.proofs.DateAtLaws.{date_place, date_front, date_back, told_some, any_some}
use Rattle.pl_cells.proofs.LaneLaws.{told}
use Rattle.pl_cells.proofs.date_at.date_at.Goals as goal

pub day_of_text-requires-clause-date : goal.day_of_text-requires-clause-date
day_of_text-requires-clause-date c =
    subst HasDateDigits (sym (take_rest c.args.upto.now c.args.start))
    (date_place c.args.upto.now c.args.start (omega arith) (omega arith) (told c.end_in_date.result c.if-end_in_date.true c.end_in_date.ensures))

pub returns-then-end_in_date-clause-value : goal.returns-then-end_in_date-clause-value
returns-then-end_in_date-clause-value c =
    told_some c.day_of_text.result (date_value (drop c.args.start c.args.upto.now)) (c.day_of_text.ensures.value ∙ ap date_value (take_rest c.args.upto.now c.args.start))

pub returns-then-end_in_date-clause-front : goal.returns-then-end_in_date-clause-front
returns-then-end_in_date-clause-front c =
    let text = drop c.args.start c.args.upto.now in
    let is : HasDateDigits text = date_place c.args.upto.now c.args.start (omega arith) (omega arith) (told c.end_in_date.result c.if-end_in_date.true c.end_in_date.ensures) in
    any_some c.day_of_text.result (begins_number text ≡ true) (date_front text (omega (arith, length-drop c.args.start c.args.upto.now)) is)

pub returns-then-end_in_date-clause-back : goal.returns-then-end_in_date-clause-back
returns-then-end_in_date-clause-back c =
    let text = drop c.args.start c.args.upto.now in
    let is : HasDateDigits text = date_place c.args.upto.now c.args.start (omega arith) (omega arith) (told c.end_in_date.result c.if-end_in_date.true c.end_in_date.ensures) in
    any_some c.day_of_text.result (strip text ≡ text) (date_back text (omega (arith, length-drop c.args.start c.args.upto.now)) is)
