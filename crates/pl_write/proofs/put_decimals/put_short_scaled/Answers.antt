use Rattle.std.proofs.Common.{◌≡◌, ◌+◌, ◌++◌, max, length, take, ◌∙◌, ap, arith}
use Rattle.std.specs.Prelude.{decimal}
use Rattle.pl_text.specs.ValueText.{point_text}
use Rattle.pl_write.proofs.PointLaws.{padded-max}
use Rattle.pl_write.proofs.put_decimals.put_short_scaled.Goals as goal

pub returns-clause-text : goal.returns-clause-text
returns-clause-text c =
    let count = c.max-count.result in
    let is : count ≡ max (length (decimal c.args.n)) (c.args.scale + 1) = c.max-count.ensures ∙ ap (λ d. max d (c.args.scale + 1)) c.short_digit_count.ensures.count in
    let digits = padded-max c.args.n c.args.scale count is (omega arith) in
    c.put_last.ensures.text ∙ ap (λ l. take c.args.at c.args.to.now ++ point_text c.args.scale l) digits
