use Rattle.std.proofs.Common.{◌<◌}
use Rattle.pl_verbatim.specs.CellTexts.{IsClockText}
use Rattle.pl_verbatim.proofs.DateLaws.{on_true}
use Rattle.pl_verbatim.proofs.MomentTextLaws.{clock_written}
use Rattle.pl_verbatim.proofs.moments.is_second.Goals as goal

pub returns : goal.returns
returns c =
    let text = c.args.text.now in
    on_true c.has_second.result ((c.pair-hour.result < 24) × (c.pair-minute.result < 60) × (c.pair-second.result < 60)) (IsClockText text)
    (λ few. clock_written text c.pair-hour.result c.pair-minute.result c.pair-second.result c.requires.eight c.requires.digits
    c.pair-hour.ensures.value c.pair-minute.ensures.value c.pair-second.ensures.value few.0 few.1 few.2)
    c.has_second.ensures
