use Rattle.std.proofs.Common.{◌≡◌, ◌+◌, ◌≤◌, ◌++◌, length, take, drop, ◌∙◌, ap, arith}
use Rattle.std.specs.Prelude.{decimal}
use Rattle.std.proofs.lemmas.Fmt.{length-decimal-le}
use Rattle.pl_text.specs.ValueText.{padded}
use Rattle.pl_write.proofs.PaddedLaws.{padded-drop}
use Rattle.pl_write.proofs.put_times.put_six.Goals as goal

pub returns-clause-text : goal.returns-clause-text
returns-clause-text c =
    let few : length (decimal c.args.n) ≤ 6 = length-decimal-le 6 c.args.n (omega arith) (omega arith) (omega arith) in
    let room : length (decimal c.args.n) + 2 ≤ 8 = omega (arith, few) in
    let digits : take 6 c.bytes_from.result ≡ padded 6 c.args.n = c.bytes_from.ensures ∙ ap (λ l. drop 2 l) c.eight_digits.ensures ∙ padded-drop 2 8 c.args.n room in
    c.put_front.ensures.text ∙ ap (λ l. take c.args.at c.args.to.now ++ l) digits
