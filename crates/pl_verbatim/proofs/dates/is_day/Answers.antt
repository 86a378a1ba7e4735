use Rattle.std.proofs.Common.{◌+◌, ◌*◌, ◌∙◌, ap₂, pos}
use Rattle.jiff_core.specs.Calendar.{IsCivilDate}
use Rattle.pl_verbatim.specs.CellTexts.{IsDateText}
use Rattle.pl_verbatim.proofs.DateLaws.{date_written, on_true}
use Rattle.pl_verbatim.proofs.dates.is_day.Goals as goal

pub returns : goal.returns
returns c =
    let text = c.args.text.now in
    on_true c.has_day.result (IsCivilDate (pos (c.from.result * 100 + c.from-2.result)) c.pair-month.result c.pair-day.result) (IsDateText text)
    (date_written text (c.from.result * 100 + c.from-2.result) c.pair-month.result c.pair-day.result c.requires.ten c.requires.digits
    (ap₂ (λ a b. a * 100 + b) (c.from.ensures ∙ c.pair-century.ensures.value) (c.from-2.ensures ∙ c.pair-year.ensures.value)) c.pair-month.ensures.value c.pair-day.ensures.value)
    c.has_day.ensures
