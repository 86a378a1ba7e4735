use Rattle.std.proofs.Common.{◌≡◌, ℕ, ◌+◌, ◌-◌, ◌<◌, ◌≤◌, ◌^◌, List, length, take, drop, get_or, length-take, length-drop, Option, Some, None, ◌∙◌, ap, arith, rules}
use Rattle.std.specs.Prelude.{IfSome}
use Rattle.std.proofs.lemmas.List.{take_all}
use Rattle.pl_cells.specs.Decimals.{before_point, behind_point}
use Rattle.pl_cells.specs.DecimalParts.{scaled_below, read_on}
use Rattle.pl_cells.proofs.IntegerLaws.{nineteen}
use Rattle.pl_cells.proofs.DecimalLaws.{scaled-few}
use Rattle.pl_cells.proofs.decimals.scaled_few.Goals as goal

pub returns : goal.returns
returns c = by c.read_few-2.result c.read_few-2.ensures.small c.read_few-2.ensures.is
  where
    text : List ℕ
    text = c.args.digits.now

    at : ℕ
    at = length text - c.args.scale - 1

    by : (r : Option ℕ) → IfSome r (λ n. n < 10 ^ (at + length (take (length text - (at + 1)) (drop (at + 1) text))))
        → IfSome r (λ n. Some n ≡ read_on (2 ^ 128) c.in_ok-number.number (take (length text - (at + 1)) (drop (at + 1) text)))
        → IfSome r (λ n. Some n ≡ scaled_below (2 ^ 128) c.args.scale (before_point text) (behind_point text))
    by None small is = tt
    by (Some n) small is =
        let rest = drop (at + 1) text in
        let whole : take (length text - (at + 1)) rest ≡ rest = take_all (length text - (at + 1)) rest (omega (arith, length-drop (at + 1) text)) in
        let all : at + c.args.scale + 1 ≡ length text = omega arith in
        let point : get_or text at 0 ≡ 46 = search rules in
        let few : length (take (length text - (at + 1)) rest) ≤ length text - (at + 1) = omega (arith, length-take (length text - (at + 1)) rest) in
        let fits : n < 2 ^ 128 = omega (arith, nineteen n (at + length (take (length text - (at + 1)) rest)) small (omega arith)) in
        scaled-few c.args.scale at n c.in_ok-number.number text all (omega arith) point fits c.in_ok-number.ensures.is (is ∙ ap (read_on (2 ^ 128) c.in_ok-number.number) whole)
