use Rattle.std.proofs.Common.{refl}
use Rattle.pl_write.proofs.WordLaws.{word-digits}
use Rattle.pl_write.proofs.digit_words.eight_digits.Goals as goal

pub returns : goal.returns
returns c = word-digits c.args.n _ c.requires (rw (c.pair.ensures, c.pair-2.ensures, c.pair-3.ensures, c.pair-4.ensures) refl)
