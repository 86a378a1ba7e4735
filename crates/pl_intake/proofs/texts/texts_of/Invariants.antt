use Rattle.std.proofs.Common.{◌≡◌, map, take}
use Rattle.pl_intake.proofs.TextLaws.{values_of}
use Rattle.pl_intake.proofs.texts.texts_of.Given as goal

abbrev pub invariant-loop-place : goal.invariant-loop-place
invariant-loop-place l = map (λ text. text.now) l.texts.items ≡ take l.place (values_of l.tokens.items)
