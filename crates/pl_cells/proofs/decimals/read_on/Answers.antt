use Rattle.std.proofs.Common.{◌≡◌, ◌+◌, ◌≤◌, ◌^◌, false, true, get_or, take, arith, rules, sym, ap, ◌∙◌}
use Rattle.std.proofs.lemmas.List.{take_all}
use Rattle.std.specs.Char.{is_ascii_digit}
use Rattle.std.specs.Str.{all_ascii_digits}
use Rattle.pl_cells.specs.Integers.{number_after}
use Rattle.pl_cells.proofs.IntegerLaws.{all_ascii_digits_more, number_after_more}
use Rattle.pl_cells.proofs.DecimalLaws.{read_on-spoilt, read_on-past, read_on-some}
use Rattle.pl_cells.proofs.decimals.read_on.Goals as goal

pub returns-then-not-is_ascii_digit : goal.returns-then-not-is_ascii_digit
returns-then-not-is_ascii_digit c =
    let spoilt : is_ascii_digit (get_or c.args.digits.now c.loop-byte.byte-index 0) ≡ false = search rules in
    read_on-spoilt (2 ^ 128) c.args.number c.args.digits.now c.loop-byte.byte-index c.loop-byte-test.true spoilt

pub returns-in_err-checked_mul : goal.returns-in_err-checked_mul
returns-in_err-checked_mul c =
    let i = c.loop-byte.byte-index in
    let past : 2 ^ 128 ≤ number_after c.args.number (take (i + 1) c.args.digits.now) =
    omega (arith, number_after_more c.args.number c.args.digits.now i c.loop-byte-test.true, c.in_err-checked_mul.ensures) in
    c.from_residual.ensures ∙ read_on-past (2 ^ 128) c.args.number c.args.digits.now (i + 1) past

pub returns-in_err-all : goal.returns-in_err-all
returns-in_err-all c =
    let i = c.loop-byte.byte-index in
    let ten = c.in_ok-checked_mul.ensures in
    let past : 2 ^ 128 ≤ number_after c.args.number (take (i + 1) c.args.digits.now) =
    omega (arith, number_after_more c.args.number c.args.digits.now i c.loop-byte-test.true, c.in_err-all.ensures, ten.1) in
    c.from_residual-in_err-all.ensures ∙ read_on-past (2 ^ 128) c.args.number c.args.digits.now (i + 1) past

pub loop-byte-preserved : goal.loop-byte-preserved
loop-byte-preserved c =
    let i = c.loop-byte.byte-index in
    let digit : is_ascii_digit (get_or c.args.digits.now i 0) ≡ true = search rules in
    let ten = c.in_ok-checked_mul.ensures in
    let sum = c.in_ok-all.ensures in
    record {
      small = omega (arith, sum.0, sum.1);
      digits = all_ascii_digits_more c.args.digits.now i c.loop-byte-test.true c.loop-byte.invariant.digits digit;
      is = omega (arith, number_after_more c.args.number c.args.digits.now i c.loop-byte-test.true, ten.1, sum.1);
    }

pub returns : goal.returns
returns c =
    let whole : take c.loop-byte.byte-index c.args.digits.now ≡ c.args.digits.now = take_all _ _ (omega arith) in
    read_on-some (2 ^ 128) c.args.number c.args.digits.now c.loop-byte.all (sym (ap all_ascii_digits whole) ∙ c.loop-byte.invariant.digits) (c.loop-byte.invariant.is ∙ ap (number_after c.args.number) whole) (omega arith)
