-- Each byte is one more digit.
use Rattle.std.proofs.Common.{ap, sym, ◌∙◌, arith}
use Rattle.std.specs.Str.{all_ascii_digits}
use Rattle.std.proofs.lemmas.List.{take_all}
use Rattle.pl_cells.proofs.IntegerLaws.{all_ascii_digits_more}
use Rattle.pl_verbatim.proofs.decimals.are_digits.Goals as goal

pub loop-index-preserved : goal.loop-index-preserved
loop-index-preserved c =
    all_ascii_digits_more c.args.bytes.now c.loop-index.index c.loop-index-test.true c.loop-index.invariant (sym c.is_ascii_digit.ensures.value ∙ c.if-not-is_ascii_digit.false)

pub returns : goal.returns
returns c = ap all_ascii_digits (sym (take_all c.loop-index.index c.args.bytes.now (omega (arith, c.loop-index-test.false)))) ∙ c.loop-index.invariant
