use Rattle.std.proofs.Common.{◌≡◌, map, string_bytes, length}
use Rattle.pl_words.specs.Parts.{of_parts, are_known_once}
use Rattle.pl_words.proofs.parts.are_known_once.Given as goal

abbrev pub invariant-loop-rest : goal.invariant-loop-rest
invariant-loop-rest l = of_parts are_known_once (map string_bytes l.words) ≡ of_parts are_known_once (map string_bytes l.rest)

abbrev pub decreases-loop-rest : goal.decreases-loop-rest
decreases-loop-rest l = length l.rest
