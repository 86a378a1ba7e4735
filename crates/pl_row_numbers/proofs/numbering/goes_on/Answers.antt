use Rattle.std.proofs.Common.{◌||◌, not, ◌==◌, length, get_or, ◌-◌, sym, ◌∙◌, ap}
use Rattle.pl_row_numbers.proofs.FollowedLaws.{begun-behind}
use Rattle.pl_row_numbers.proofs.numbering.goes_on.Goals as goal

pub returns-then-odd : goal.returns-then-odd
returns-then-odd c = λ s is.
    let text = c.args.text.now in
    c.if-odd.true ∙ sym (begun-behind s text c.requires ∙ ap (λ o. o || not (get_or text (length text - 1) 0 == 10)) (is ∙ c.if-odd.true))

pub returns-else-odd : goal.returns-else-odd
returns-else-odd c = λ s is.
    let text = c.args.text.now in
    sym (begun-behind s text c.requires ∙ ap (λ o. o || not (get_or text (length text - 1) 0 == 10)) (is ∙ c.if-odd.false))
