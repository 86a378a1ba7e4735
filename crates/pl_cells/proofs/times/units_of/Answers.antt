use Rattle.std.proofs.Common.{◌∙◌, ap, arith, FitsSigned, w64}
use Rattle.std.specs.Int.{w128}
use Rattle.jiff_core.proofs.SignedLemmas.{signed_arith}
use Rattle.std.proofs.lemmas.Int.{to_z-of_z}
use Rattle.pl_frame.specs.Types.{units_in_second}
use Rattle.pl_cells.specs.Times.{count_of_units}
use Rattle.pl_cells.proofs.TimeLaws.{count-within}
use Rattle.pl_cells.proofs.times.units_of.Goals as goal

pub returns-clause-within : goal.returns-clause-within
returns-clause-within c =
    let fits : FitsSigned w64 c.args.day = omega (arith, signed_arith) in
    let day = to_z-of_z w64 c.args.day fits in
    let wide : FitsSigned w128 c.count_in.result = record { sfits = c.count_in.type_inv } in
    let count = to_z-of_z w128 c.count_in.result wide ∙ c.count_in.ensures ∙ ap (λ d. count_of_units (units_in_second c.args.unit) d c.args.nanoseconds) day in
    count-within c.args.unit c.args.day c.args.nanoseconds _ count c.requires.day_in c.requires.time_in
