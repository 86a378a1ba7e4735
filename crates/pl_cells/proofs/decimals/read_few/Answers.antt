use Rattle.std.proofs.Common.{◌≡◌, ◌+◌, ◌*◌, ◌<◌, ◌^◌, true, get_or, length, take, arith, rules, sym, ap, subst, lit<, ◌∙◌}
use Rattle.std.proofs.lemmas.List.{take_all}
use Rattle.std.specs.Char.{is_ascii_digit}
use Rattle.std.specs.Str.{all_ascii_digits}
use Rattle.pl_cells.specs.Integers.{number_after}
use Rattle.pl_cells.proofs.IntegerLaws.{all_ascii_digits_more, number_after_more, ten_more, digit_small, nineteen}
use Rattle.pl_cells.proofs.DecimalLaws.{read_on-some}
use Rattle.pl_cells.proofs.decimals.read_few.Goals as goal

pub overflow_mul-all : goal.overflow_mul-all
overflow_mul-all c =
    let k = c.args.before + c.loop-byte.byte-index in
    let one_more = ten_more c.loop-byte.all k 0 c.loop-byte.invariant.small (lit< tt) in
    omega (arith, nineteen (c.loop-byte.all * 10 + 0) (k + 1) one_more (omega arith))

pub overflow_add-all : goal.overflow_add-all
overflow_add-all c =
    let i = c.loop-byte.byte-index in
    let k = c.args.before + i in
    let digit : is_ascii_digit (get_or c.args.digits.now i 0) ≡ true = search rules in
    let small : c.from.result < 10 = omega (arith, digit_small (get_or c.args.digits.now i 0) digit) in
    omega (arith, nineteen (c.loop-byte.all * 10 + c.from.result) (k + 1) (ten_more c.loop-byte.all k c.from.result c.loop-byte.invariant.small small) (omega arith))

pub loop-byte-preserved : goal.loop-byte-preserved
loop-byte-preserved c =
    let i = c.loop-byte.byte-index in
    let k = c.args.before + i in
    let digit : is_ascii_digit (get_or c.args.digits.now i 0) ≡ true = search rules in
    let small : c.from.result < 10 = omega (arith, digit_small (get_or c.args.digits.now i 0) digit) in
    let next : k + 1 ≡ c.args.before + (i + 1) = omega arith in
    record {
      small = subst (λ e. c.loop-byte.all * 10 + c.from.result < 10 ^ e) next (ten_more c.loop-byte.all k c.from.result c.loop-byte.invariant.small small);
      digits = all_ascii_digits_more c.args.digits.now i c.loop-byte-test.true c.loop-byte.invariant.digits digit;
      is = omega (arith, number_after_more c.args.number c.args.digits.now i c.loop-byte-test.true);
    }

pub returns : goal.returns
returns c =
    let i = c.loop-byte.byte-index in
    let whole : take i c.args.digits.now ≡ c.args.digits.now = take_all _ _ (omega arith) in
    let count : i ≡ length c.args.digits.now = omega arith in
    let fits : c.loop-byte.all < 2 ^ 128 = omega (arith, nineteen c.loop-byte.all (c.args.before + i) c.loop-byte.invariant.small (omega arith)) in
    record {
      small = subst (λ k. c.loop-byte.all < 10 ^ (c.args.before + k)) count c.loop-byte.invariant.small;
      is = read_on-some (2 ^ 128) c.args.number c.args.digits.now c.loop-byte.all (sym (ap all_ascii_digits whole) ∙ c.loop-byte.invariant.digits) (c.loop-byte.invariant.is ∙ ap (number_after c.args.number) whole) fits;
    }
