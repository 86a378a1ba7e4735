use Rattle.std.proofs.Common.{◌∙◌, ap, ◌++◌, take}
use Rattle.std.specs.Int.{w64, to_le_bytes}
use Rattle.pl_write.proofs.WordLaws.{digits-from}
use Rattle.pl_write.proofs.put_wholes.put_short.Goals as goal

pub returns-clause-text : goal.returns-clause-text
returns-clause-text c =
    let count = c.short_digit_count-count in
    let digits = digits-from c.args.n count.result c.bytes_from.result (to_le_bytes w64 c.eight_digits.result) count.ensures.count count.ensures.few c.eight_digits.ensures c.bytes_from.ensures in
    c.put_front.ensures.text ∙ ap (λ l. take c.args.at c.args.to.now ++ l) digits
