use Rattle.std.proofs.Common.{arith, ap, ◌∙◌}
use Rattle.pl_write.proofs.WordLaws.{pair_at, pair_of}
use Rattle.pl_write.proofs.digit_words.pair.Goals as goal

pub returns : goal.returns
returns c = c.from.ensures ∙ pair_at 0 100 c.args.n _ (omega arith) ∙ ap pair_of (omega arith)
