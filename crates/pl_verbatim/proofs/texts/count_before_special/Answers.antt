use Rattle.std.proofs.Common.{◌∙◌, sym, arith}
use Rattle.pl_text.specs.FrameText.{is_special}
use Rattle.pl_verbatim.proofs.TextLaws.{counted}
use Rattle.pl_verbatim.proofs.texts.count_before_special.Goals as goal

pub returns-then-is_special_byte-clause-value : goal.returns-then-is_special_byte-clause-value
returns-then-is_special_byte-clause-value c =
    counted (is_special c.args.separator c.args.quote) c.args.bytes.now c.loop-count.count (omega arith) c.loop-count.invariant (λ h. sym c.is_special_byte.ensures ∙ c.if-is_special_byte.true)

pub returns-clause-value : goal.returns-clause-value
returns-clause-value c =
    counted (is_special c.args.separator c.args.quote) c.args.bytes.now _ (omega arith) (λ k h. c.loop-count.invariant k (omega arith)) (λ h. absurd (omega arith))
