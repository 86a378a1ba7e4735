use Rattle.std.proofs.Common.{◌≡◌, pos, ◌∙◌, ap, arith, FitsSigned, w16, w8, w32, w64, unsigned_abs}
use Rattle.std.proofs.lemmas.Int.{to_z-of_z, to_z_pos}
use Rattle.jiff_core.proofs.SignedLemmas.{signed_arith}
use Rattle.pl_cells.proofs.DateLaws.{number_of_day-at, day-within-at}
use Rattle.pl_cells.proofs.dates.day_of.Goals as goal

pub returns-in-Ok-clause-value : goal.returns-in-Ok-clause-value
returns-in-Ok-clause-value c =
    let date = c.in-Ok.date in
    let parts = c.in-Ok.ensures.value in
    let year : date.year ≡ pos c.args.year = parts.0 ∙ to_z_pos w16 c.args.year (omega arith) in
    let month : date.month ≡ c.args.month = ap unsigned_abs (parts.1 ∙ to_z_pos w8 c.args.month (omega arith)) in
    let day : date.day ≡ c.args.day = ap unsigned_abs (parts.2 ∙ to_z_pos w8 c.args.day (omega arith)) in
    let fits : FitsSigned w32 c.to_unix_epoch_day.result = omega (arith, signed_arith) in
    let wide : FitsSigned w64 c.from.result = omega (arith, signed_arith) in
    let number = to_z-of_z w64 c.from.result wide ∙ c.from.ensures ∙ to_z-of_z w32 c.to_unix_epoch_day.result fits ∙ c.to_unix_epoch_day.ensures.value in
    number_of_day-at c.args.year c.args.month c.args.day date.year date.month date.day _ year month day date.month_in date.day_in number

pub returns-in-Ok-clause-within : goal.returns-in-Ok-clause-within
returns-in-Ok-clause-within c =
    let date = c.in-Ok.date in
    let parts = c.in-Ok.ensures.value in
    let year : date.year ≡ pos c.args.year = parts.0 ∙ to_z_pos w16 c.args.year (omega arith) in
    let month : date.month ≡ c.args.month = ap unsigned_abs (parts.1 ∙ to_z_pos w8 c.args.month (omega arith)) in
    let day : date.day ≡ c.args.day = ap unsigned_abs (parts.2 ∙ to_z_pos w8 c.args.day (omega arith)) in
    let fits : FitsSigned w32 c.to_unix_epoch_day.result = omega (arith, signed_arith) in
    let wide : FitsSigned w64 c.from.result = omega (arith, signed_arith) in
    let number = to_z-of_z w64 c.from.result wide ∙ c.from.ensures ∙ to_z-of_z w32 c.to_unix_epoch_day.result fits ∙ c.to_unix_epoch_day.ensures.value in
    day-within-at c.args.year date.year date.month date.day _ year (date.year_in, date.month_in, date.day_in) number
