-- All texts are done.
use Rattle.std.proofs.Common.{subst, arith}
use Rattle.std.proofs.lemmas.List.{take_all}
use Rattle.pl_verbatim.specs.Nulls.{AreStarts}
use Rattle.pl_verbatim.proofs.form_options.starts_among.Goals as goal

pub returns : goal.returns
returns c = subst (λ texts. AreStarts texts c.loop-text.starts) (take_all c.loop-text.text-index c.args.texts.now (omega (arith, c.loop-text-test.false))) c.loop-text.invariant
