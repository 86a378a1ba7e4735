use Rattle.std.proofs.Common.{◌-◌, ◌+◌, drop, subst}
use Rattle.std.specs.List.{slice_range}
use lib.Lanes.{chunk}
use Rattle.pl_cells.specs.Lanes.{HasClockDigits}
use Rattle.pl_verbatim.proofs.DateLaws.{on_true}
use Rattle.pl_verbatim.proofs.MomentTextLaws.{last_eight}
use Rattle.pl_verbatim.proofs.moments.is_clock_at.Goals as goal

pub returns : goal.returns
returns c =
    let text = c.args.text.now in
    on_true c.end_in_clock.result (HasClockDigits (drop 8 (chunk 0 16 (slice_range text (c.args.at - 8) (c.args.at + 8))))) (HasClockDigits (slice_range text c.args.at (c.args.at + 8)))
    (subst HasClockDigits (last_eight text c.args.at c.requires.before c.requires.room)) c.end_in_clock.ensures
