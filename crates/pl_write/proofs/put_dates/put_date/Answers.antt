use Rattle.std.proofs.Common.{◌≡◌, pos, ◌+ℤ◌, ◌++◌, ◌∙◌, ap, take, arith, w16, w64, FitsSigned}
use Rattle.std.proofs.lemmas.Int.{to_z-of_z}
use Rattle.jiff_core.proofs.SignedLemmas.{signed_arith}
use Rattle.jiff_core.specs.Calendar.{days_from_civil}
use Rattle.pl_text.proofs.DateLaws.{year_is, in_days, same_day, date_text-is}
use Rattle.pl_write.proofs.put_dates.put_date.Goals as goal

pub overflow_cast-date : goal.overflow_cast-date
overflow_cast-date c =
    let d = c.from_days_since_min-date.result in
    let bounds = in_days c.args.day c.requires.day in
    let sum : FitsSigned w64 (c.args.day +ℤ pos 4371587) = omega (arith, signed_arith, bounds) in
    let told = simp (to_z-of_z w64 c.args.day c.ranges.day, to_z-of_z w64 (c.args.day +ℤ pos 4371587) sum) at c.from_days_since_min-date.ensures in
    let is : days_from_civil d.year d.month d.day ≡ c.args.day = same_day (days_from_civil d.year d.month d.day) c.args.day c.requires.day told in
    let year = year_is d.year d.month d.day c.args.day (d.year_in, d.month_in, d.day_in) is c.requires.day in
    let fits : FitsSigned w16 d.year = omega (arith, signed_arith, d.year_in) in
    let small = year.1 in
    rw (to_z-of_z w16 d.year fits, year.0) (tt, omega (arith, small))

pub returns-clause-text : goal.returns-clause-text
returns-clause-text c =
    let d = c.from_days_since_min-date.result in
    let bounds = in_days c.args.day c.requires.day in
    let sum : FitsSigned w64 (c.args.day +ℤ pos 4371587) = omega (arith, signed_arith, bounds) in
    let told = simp (to_z-of_z w64 c.args.day c.ranges.day, to_z-of_z w64 (c.args.day +ℤ pos 4371587) sum) at c.from_days_since_min-date.ensures in
    let is : days_from_civil d.year d.month d.day ≡ c.args.day = same_day (days_from_civil d.year d.month d.day) c.args.day c.requires.day told in
    let year = year_is d.year d.month d.day c.args.day (d.year_in, d.month_in, d.day_in) is c.requires.day in
    let fits : FitsSigned w16 d.year = omega (arith, signed_arith, d.year_in) in
    let made = rw (to_z-of_z w16 d.year fits, c.from.ensures, c.from-2.ensures) at c.put_civil.ensures.text in
    made ∙ ap (λ l. take c.args.at c.args.to.now ++ l) (date_text-is d.year d.month d.day c.args.day (d.year_in, d.month_in, d.day_in) is c.requires.day)
