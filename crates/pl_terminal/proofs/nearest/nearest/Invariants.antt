use Rattle.std.proofs.Common.{map}
use Rattle.pl_terminal.proofs.NearestLaws.{IsSearched}
use Rattle.pl_terminal.proofs.nearest.nearest.Given as goal

abbrev pub invariant-loop-place : goal.invariant-loop-place
invariant-loop-place l = IsSearched l.word (map (λ other. other.now) l.words) l.few l.least l.place l.found
