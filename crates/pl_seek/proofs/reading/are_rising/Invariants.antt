use Rattle.std.proofs.Common.{◌↔◌, ◌∷◌, ◌/◌, length}
use Rattle.pl_seek.specs.Index.{AreRising}
use Rattle.pl_seek.specs.Reading.{numbers_in}
use Rattle.pl_seek.proofs.reading.are_rising.Given as goal

abbrev pub invariant-numbers : goal.invariant-numbers
invariant-numbers l = AreRising (numbers_in (length l.bytes / 8) l.bytes) ↔ AreRising (l.last ∷ numbers_in (length l.rest / 8) l.rest)

abbrev pub decreases-numbers : goal.decreases-numbers
decreases-numbers l = length l.rest
