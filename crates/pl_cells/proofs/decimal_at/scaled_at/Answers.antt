use Rattle.std.proofs.Common.{◌≡◌, ◌+◌, ◌-◌, ℕ, List, length, take, drop, get_or, sym, ◌∙◌, ap, arith, rules}
use Rattle.std.proofs.lemmas.List.{drop-take}
use Rattle.pl_cells.specs.Integers.{is_digits}
use Rattle.pl_cells.proofs.DecimalAtLaws.{joined_in_place}
use Rattle.pl_cells.proofs.PlacedLaws.{strip_drop, front_digit}
use Rattle.pl_cells.proofs.decimal_at.scaled_at.Goals as goal

pub returns-clause-value : goal.returns-clause-value
returns-clause-value c =
    let upto : List ℕ = c.args.upto.now in
    let point = length upto - c.args.scale - 1 in
    let dot : get_or upto point 0 ≡ 46 = search rules in
    (joined_in_place upto c.args.from point c.args.scale c.in_ok-number.number (omega arith) (omega arith) (omega arith) (omega arith) dot
    c.in_ok-number.ensures.digits c.in_ok-number.ensures.value c.in_ok-number.ensures.small).0

pub returns-clause-front : goal.returns-clause-front
returns-clause-front c =
    let upto : List ℕ = c.args.upto.now in
    let point = length upto - c.args.scale - 1 in
    let dot : get_or upto point 0 ≡ 46 = search rules in
    let at = point - c.args.from in
    let there : c.args.from + at ≡ point = omega arith in
    let whole : drop c.args.from (take point upto) ≡ take at (drop c.args.from upto) = ap (λ k. drop c.args.from (take k upto)) (sym there) ∙ drop-take c.args.from at upto in
    let told = joined_in_place upto c.args.from point c.args.scale c.in_ok-number.number (omega arith) (omega arith) (omega arith) (omega arith) dot
    c.in_ok-number.ensures.digits c.in_ok-number.ensures.value c.in_ok-number.ensures.small in
    front_digit (drop c.args.from upto) at (ap is_digits (sym whole) ∙ told.1.0)

pub returns-clause-back : goal.returns-clause-back
returns-clause-back c = λ start le.
    let upto : List ℕ = c.args.upto.now in
    let point = length upto - c.args.scale - 1 in
    let dot : get_or upto point 0 ≡ 46 = search rules in
    let told = joined_in_place upto c.args.from point c.args.scale c.in_ok-number.number (omega arith) (omega arith) (omega arith) (omega arith) dot
    c.in_ok-number.ensures.digits c.in_ok-number.ensures.value c.in_ok-number.ensures.small in
    strip_drop upto start (point + 1) (omega arith) told.1.1
