use Rattle.std.proofs.Common.{◌∙◌, ap, take}
use Rattle.pl_write.proofs.WordLaws.{pair-digits}
use Rattle.pl_write.proofs.digit_words.two_digits.Goals as goal

pub returns : goal.returns
returns c = ap (take 2) c.to_le_bytes.ensures ∙ pair-digits c.args.n c.pair.result c.requires c.pair.ensures
