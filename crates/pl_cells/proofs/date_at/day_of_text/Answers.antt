use Rattle.std.proofs.Common.{◌≡◌, ℕ, List, ◌+◌, ◌*◌, ◌∙◌, get_or, Some, sym, ap₂}
use Rattle.pl_cells.specs.Dates.{number_of_day}
use Rattle.pl_cells.proofs.DateAtLaws.{date_told, pair_of}
use Rattle.pl_cells.proofs.date_at.day_of_text.Goals as goal

pub returns-clause-value : goal.returns-clause-value
returns-clause-value c =
    let text : List ℕ = c.args.text.now in
    let year : c.from.result * 100 + c.from-2.result ≡ pair_of (get_or text 0 0) (get_or text 1 0) * 100 + pair_of (get_or text 2 0) (get_or text 3 0) =
    ap₂ (λ (a b : ℕ). a * 100 + b) (c.from.ensures ∙ c.pair-century.ensures.value) (c.from-2.ensures ∙ c.pair-year.ensures.value) in
    let month : c.pair-month.result ≡ pair_of (get_or text 5 0) (get_or text 6 0) = c.pair-month.ensures.value in
    let day : c.pair-day.result ≡ pair_of (get_or text 8 0) (get_or text 9 0) = c.pair-day.ensures.value in
    c.day_of.ensures.value ∙ (λ j. number_of_day (Some (year j)) (Some (month j)) (Some (day j))) ∙ sym (date_told text c.requires.ten c.requires.date)
