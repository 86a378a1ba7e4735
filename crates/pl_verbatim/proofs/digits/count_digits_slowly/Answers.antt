use Rattle.std.proofs.Common.{arith, sym, ◌∙◌, below_more}
use Rattle.std.proofs.lemmas.List.Sums.{prefix_len_is}
use Rattle.std.specs.Char.{is_ascii_digit}
use Rattle.pl_verbatim.proofs.digits.count_digits_slowly.Goals as goal

pub loop-count-preserved : goal.loop-count-preserved
loop-count-preserved c = record {
  inside = omega arith;
  digits = below_more _ _ c.loop-count.invariant.digits (sym c.is_ascii_digit.ensures.value ∙ c.if-is_ascii_digit.true);
}

pub returns-else-is_ascii_digit : goal.returns-else-is_ascii_digit
returns-else-is_ascii_digit c =
    sym (prefix_len_is is_ascii_digit c.args.bytes.now c.loop-count.count 0 c.loop-count.invariant.inside c.loop-count.invariant.digits (λ _. sym c.is_ascii_digit.ensures.value ∙ c.if-is_ascii_digit.false))

pub returns-after-loop-count : goal.returns-after-loop-count
returns-after-loop-count c =
    sym (prefix_len_is is_ascii_digit c.args.bytes.now c.loop-count.count 0 c.loop-count.invariant.inside c.loop-count.invariant.digits (λ (l : _). absurd (omega arith)))
