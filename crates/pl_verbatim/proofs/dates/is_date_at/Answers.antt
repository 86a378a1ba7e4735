use Rattle.std.proofs.Common.{◌-◌, ◌+◌, drop, subst}
use Rattle.std.specs.List.{slice_range}
use lib.Lanes.{chunk}
use Rattle.pl_cells.specs.Lanes.{HasDateDigits}
use Rattle.pl_verbatim.proofs.DateLaws.{last_ten, on_true}
use Rattle.pl_verbatim.proofs.dates.is_date_at.Goals as goal

pub returns-then-at-ge6 : goal.returns-then-at-ge6
returns-then-at-ge6 c =
    let text = c.args.text.now in
    on_true c.end_in_date.result (HasDateDigits (drop 6 (chunk 0 16 (slice_range text (c.args.at - 6) (c.args.at + 10))))) (HasDateDigits (slice_range text c.args.at (c.args.at + 10)))
    (subst HasDateDigits (last_ten text c.args.at c.if-at-ge6.true c.requires)) c.end_in_date.ensures
