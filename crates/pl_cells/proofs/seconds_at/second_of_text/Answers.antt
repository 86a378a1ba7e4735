use Rattle.std.proofs.Common.{◌≡◌, ℕ, List, ◌∙◌, get_or, Some, sym}
use Rattle.pl_cells.specs.Times.{second_of_day}
use Rattle.pl_cells.proofs.DateAtLaws.{pair_of}
use Rattle.pl_cells.proofs.SecondsAtLaws.{clock_told}
use Rattle.pl_cells.proofs.seconds_at.second_of_text.Goals as goal

pub returns-clause-value : goal.returns-clause-value
returns-clause-value c =
    let text : List ℕ = c.args.text.now in
    let hour : c.pair-hour.result ≡ pair_of (get_or text 0 0) (get_or text 1 0) = c.pair-hour.ensures.value in
    let minute : c.pair-minute.result ≡ pair_of (get_or text 3 0) (get_or text 4 0) = c.pair-minute.ensures.value in
    let second : c.pair-second.result ≡ pair_of (get_or text 6 0) (get_or text 7 0) = c.pair-second.ensures.value in
    c.second_of.ensures.value ∙ (λ j. second_of_day (Some (hour j)) (Some (minute j)) (Some (second j))) ∙ sym (clock_told text c.requires.eight c.requires.clock)
