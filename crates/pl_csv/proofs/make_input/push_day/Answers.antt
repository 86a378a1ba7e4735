use Rattle.std.proofs.Common.{◌≡◌, pos, ◌+◌, arith}
use Rattle.jiff_core.proofs.SignedLemmas.{signed_arith}
use Rattle.jiff_core.specs.Calendar.{days_from_civil}
use Rattle.pl_text.specs.ValueText.{date_text, padded}
use Rattle.pl_csv.proofs.MadeInputLaws.{day_text, day_joined}
use Rattle.pl_csv.proofs.make_input.push_day.Goals as goal

pub returns : goal.returns
returns c =
    let d = c.from_days_since_min-date.result in
    let is : days_from_civil d.year d.month d.day ≡ pos (18262 + c.args.day) = omega (arith, signed_arith, c.from_days_since_min-date.ensures) in
    let month = rw c.from.ensures at c.in_ok-push_two.ensures in
    let whole = rw c.from-2.ensures at c.in_ok-push_two-2.ensures in
    day_joined c.args.input.now.items (date_text (pos (18262 + c.args.day))) (padded 2 d.month) (padded 2 d.day)
    c.extend_from_slice.new.self.items c.push_two.new.input.items c.push.new.self.items c.push_two-2.new.input.items
    c.in_ok-extend_from_slice.ensures.items month c.in_ok-push.ensures.items whole
    (day_text d.year d.month d.day c.args.day (d.year_in, d.month_in, d.day_in) c.requires is)
