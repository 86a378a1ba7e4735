use Rattle.std.proofs.Common.{◌≡◌, ◌∙◌, ℕ, List, true, drop, take, ap, sym, subst, arith}
use Rattle.std.proofs.lemmas.List.{length-drop, take_rest}
use Rattle.pl_cells.specs.Columns.{begins_number}
use Rattle.pl_cells.specs.Lanes.{HasDateDigits, HasClockDigits}
use Rattle.pl_cells.specs.Quoting.{strip}
use Rattle.pl_cells.specs.Times.{datetime_value}
use Rattle.pl_cells.proofs.DateAtLaws.{told_some, any_some}
use Rattle.pl_cells.proofs.LaneLaws.{told}
use Rattle.pl_cells.proofs.SecondsAtLaws.{date_before, clock_behind, front_told, back_told}
use Rattle.pl_cells.proofs.seconds_at.seconds_at.Goals as goal

pub count_of_text-requires-clause-date : goal.count_of_text-requires-clause-date
count_of_text-requires-clause-date c =
    subst (λ (l : List ℕ). HasDateDigits (take 10 l)) (sym (take_rest c.args.upto.now c.args.start))
    (date_before c.args.upto.now c.args.start (omega arith) (omega arith) (told c.end_in_date.result c.if-not-end_in_date.false c.end_in_date.ensures))

pub count_of_text-requires-clause-clock : goal.count_of_text-requires-clause-clock
count_of_text-requires-clause-clock c =
    subst (λ (l : List ℕ). HasClockDigits (drop 11 l)) (sym (take_rest c.args.upto.now c.args.start))
    (clock_behind c.args.upto.now c.args.start (omega arith) (told c.end_in_clock.result c.if-end_in_clock.true c.end_in_clock.ensures))

pub returns-then-end_in_clock-clause-value : goal.returns-then-end_in_clock-clause-value
returns-then-end_in_clock-clause-value c =
    told_some c.count_of_text.result (datetime_value c.args.unit (drop c.args.start c.args.upto.now))
    (c.count_of_text.ensures.value ∙ ap (datetime_value c.args.unit) (take_rest c.args.upto.now c.args.start))

pub returns-then-end_in_clock-clause-front : goal.returns-then-end_in_clock-clause-front
returns-then-end_in_clock-clause-front c =
    let text = drop c.args.start c.args.upto.now in
    let is : HasDateDigits (take 10 text) =
    date_before c.args.upto.now c.args.start (omega arith) (omega arith) (told c.end_in_date.result c.if-not-end_in_date.false c.end_in_date.ensures) in
    any_some c.count_of_text.result (begins_number text ≡ true) (front_told text (omega (arith, length-drop c.args.start c.args.upto.now)) is)

pub returns-then-end_in_clock-clause-back : goal.returns-then-end_in_clock-clause-back
returns-then-end_in_clock-clause-back c =
    let text = drop c.args.start c.args.upto.now in
    let is : HasClockDigits (drop 11 text) = clock_behind c.args.upto.now c.args.start (omega arith) (told c.end_in_clock.result c.if-end_in_clock.true c.end_in_clock.ensures) in
    any_some c.count_of_text.result (strip text ≡ text) (back_told text (omega (arith, length-drop c.args.start c.args.upto.now)) is)
