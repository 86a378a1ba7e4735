use Rattle.std.proofs.Common.{◌≡◌, ◌+◌, ◌*◌, ◌<◌, ◌^◌, false, true, get_or, arith, rules, lit<}
use Rattle.std.specs.Char.{is_ascii_digit}
use Rattle.pl_cells.proofs.IntegerLaws.{number_below-spoilt, all_ascii_digits_more, number_of_more, ten_more, nineteen, digit_small}
use Rattle.pl_cells.proofs.integers.number_of_short.Goals as goal

pub returns-then-not-is_ascii_digit : goal.returns-then-not-is_ascii_digit
returns-then-not-is_ascii_digit c =
    let spoilt : is_ascii_digit (get_or c.args.digits.now c.loop-byte.byte-index 0) ≡ false = search rules in
    number_below-spoilt (2 ^ 64) c.args.digits.now c.loop-byte.byte-index c.loop-byte-test.true spoilt

pub overflow_mul-number : goal.overflow_mul-number
overflow_mul-number c =
    let one_more = ten_more c.loop-byte.number c.loop-byte.byte-index 0 c.loop-byte.invariant.small (lit< tt) in
    omega (arith, nineteen (c.loop-byte.number * 10 + 0) (c.loop-byte.byte-index + 1) one_more (omega arith))

pub overflow_add-number : goal.overflow_add-number
overflow_add-number c =
    let i = c.loop-byte.byte-index in
    let digit : is_ascii_digit (get_or c.args.digits.now i 0) ≡ true = search rules in
    let small : c.from.result < 10 = omega (arith, digit_small (get_or c.args.digits.now i 0) digit) in
    omega (arith, nineteen (c.loop-byte.number * 10 + c.from.result) (i + 1) (ten_more c.loop-byte.number i c.from.result c.loop-byte.invariant.small small) (omega arith))

pub loop-byte-preserved : goal.loop-byte-preserved
loop-byte-preserved c =
    let i = c.loop-byte.byte-index in
    let digit : is_ascii_digit (get_or c.args.digits.now i 0) ≡ true = search rules in
    let small : c.from.result < 10 = omega (arith, digit_small (get_or c.args.digits.now i 0) digit) in
    record {
      small = ten_more c.loop-byte.number i c.from.result c.loop-byte.invariant.small small;
      digits = all_ascii_digits_more c.args.digits.now i c.loop-byte-test.true c.loop-byte.invariant.digits digit;
      is = omega (arith, number_of_more c.args.digits.now i c.loop-byte-test.true);
    }
