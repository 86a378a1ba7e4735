use Rattle.pl_intake.proofs.TextLaws.{IsLeft}
use Rattle.pl_intake.proofs.texts.left_behind.Given as goal

abbrev pub invariant-loop-text : goal.invariant-loop-text
invariant-loop-text l = IsLeft l.texts l.rest l.fn.from l.text-index l.from l.left.items
