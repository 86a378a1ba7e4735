use Rattle.std.proofs.Common.{◌≡◌, ◌+◌, ◌<◌, ◌^◌, true, length, drop, ap, ◌∙◌, arith, rules}
use Rattle.std.proofs.lemmas.Bool.Decides.{nat_tests}
use Rattle.pl_cells.specs.Decimals.{are_zeros}
use Rattle.pl_cells.proofs.DecimalLaws.{scaled-refused, scaled-found}
use Rattle.pl_cells.proofs.decimals.scaled.Goals as goal

pub returns-in_err-number : goal.returns-in_err-number
returns-in_err-number c =
    let some : 0 < length c.args.whole.now + length c.args.fraction.now = grind (arith, nat_tests, c.has_bytes.ensures, c.if-not-has_bytes.false) in
    let zeros : are_zeros (drop c.args.scale c.args.fraction.now) ≡ true = search rules in
    c.from_residual.ensures ∙ scaled-refused (2 ^ 128) c.args.scale c.args.whole.now c.args.fraction.now some zeros (search rules)

pub returns : goal.returns
returns c =
    let some : 0 < length c.args.whole.now + length c.args.fraction.now = grind (arith, nat_tests, c.has_bytes.ensures, c.if-not-has_bytes.false) in
    let zeros : are_zeros (drop c.args.scale c.args.fraction.now) ≡ true = search rules in
    let product = rw c.power_of_ten.ensures at c.checked_mul.ensures in
    scaled-found (2 ^ 128) c.args.scale c.args.whole.now c.args.fraction.now c.in_ok-number.number (length c.split_at_scale.result.0.now) c.checked_mul.result some zeros (search rules) (ap length c.split_at_scale.ensures.kept) product
