use Rattle.std.proofs.Common.{◌+◌, refl, arith}
use Rattle.std.specs.List.{slice_range}
use Rattle.pl_verbatim.specs.CellTexts.{IsClockText}
use Rattle.pl_verbatim.proofs.MomentTextLaws.{seconds-at}
use Rattle.pl_verbatim.proofs.moments.seconds_end.Goals as goal

pub returns-then-is_second-clause-seconds : goal.returns-then-is_second-clause-seconds
returns-then-is_second-clause-seconds c =
    let clock : IsClockText (slice_range c.args.text.now (c.in_ok-day.day + 1) (c.in_ok-day.day + 9)) = c.if-is_second.ensures in
    seconds-at c.args.text.now c.args.at c.in_ok-day.day (c.in_ok-day.day + 9) c.in_ok-day.ensures.ten refl (omega (arith, c.if-text-day-lt9.false, c.in_ok-day.ensures.within))
    c.if-text-day-ne84.false c.in_ok-day.ensures.date clock
