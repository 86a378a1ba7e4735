use Rattle.std.proofs.Common.{◌≡◌, ◌<◌, false, true, get_or, length, take, arith, rules, sym, ap, ◌∙◌}
use Rattle.std.proofs.lemmas.List.{take_all}
use Rattle.std.proofs.lemmas.Bool.Decides.{nat_tests}
use Rattle.std.specs.Char.{is_ascii_digit}
use Rattle.std.specs.Str.{all_ascii_digits}
use Rattle.pl_cells.proofs.IntegerLaws.{all_ascii_digits_spoilt, all_ascii_digits_more, is_digits-cons}
use Rattle.pl_cells.proofs.integers.is_digits.Goals as goal

pub returns-then-not-is_ascii_digit : goal.returns-then-not-is_ascii_digit
returns-then-not-is_ascii_digit c =
    let i = c.loop-byte.byte-index in
    let spoilt : is_ascii_digit (get_or c.args.text.now i 0) ≡ false = search rules in
    sym (is_digits-cons c.args.text.now (omega (arith, c.loop-byte-test.true)) ∙ all_ascii_digits_spoilt c.args.text.now i c.loop-byte-test.true spoilt)

pub loop-byte-preserved : goal.loop-byte-preserved
loop-byte-preserved c =
    let i = c.loop-byte.byte-index in
    let digit : is_ascii_digit (get_or c.args.text.now i 0) ≡ true = search rules in
    all_ascii_digits_more c.args.text.now i c.loop-byte-test.true c.loop-byte.invariant digit

pub returns : goal.returns
returns c =
    let some : 0 < length c.args.text.now = grind (arith, nat_tests, c.is_empty.ensures, c.if-is_empty.false) in
    let all : take c.loop-byte.byte-index c.args.text.now ≡ c.args.text.now = take_all _ _ (omega arith) in
    sym (is_digits-cons c.args.text.now some ∙ sym (ap all_ascii_digits all) ∙ c.loop-byte.invariant)
