use Rattle.std.proofs.Common.{◌≡◌, ◌+◌, ◌-◌, ℕ, length, take, drop, arith, ◌∙◌, ap, length-drop, length-take}
use Rattle.std.proofs.lemmas.List.{length-take-le}
use Rattle.std.proofs.lemmas.List.Sums.{prefix_len-le-length}
use Rattle.std.specs.Char.{is_ascii_digit}
use Rattle.std.specs.List.{prefix_len}
use Rattle.pl_verbatim.proofs.DigitLaws.{prefix_len-front}
use Rattle.pl_verbatim.proofs.digits.digits_end.Goals as goal

pub returns-then-count-lt16 : goal.returns-then-count-lt16
returns-then-count-lt16 c =
    let rest = drop c.args.at c.args.text.now in
    let width : c.args.at + 16 - c.args.at ≡ 16 = omega arith in
    let is : c.count_digits-count.result ≡ prefix_len is_ascii_digit (take 16 rest) = c.count_digits-count.ensures ∙ ap (λ (n : ℕ). prefix_len is_ascii_digit (take n rest)) width in
    let long : length (take 16 rest) ≡ 16 = length-take-le 16 rest (omega (arith, length-drop c.args.at c.args.text.now)) in
    ap (λ (n : ℕ). c.args.at + n) (is ∙ prefix_len-front 16 rest (omega (arith, is)) (omega (arith, is, long)))

pub overflow_add-result-2 : goal.overflow_add-result-2
overflow_add-result-2 c =
    let front = take (length c.args.text.now - c.args.at) (drop c.args.at c.args.text.now) in
    omega (arith, c.count_digits_slowly.ensures, prefix_len-le-length is_ascii_digit front, length-take (length c.args.text.now - c.args.at) (drop c.args.at c.args.text.now))
