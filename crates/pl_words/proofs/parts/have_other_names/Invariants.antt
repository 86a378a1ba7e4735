use Rattle.std.proofs.Common.{◌≡◌, map, string_bytes, length, not}
use Rattle.pl_words.specs.Parts.{of_parts, has_name}
use Rattle.pl_words.proofs.parts.have_other_names.Given as goal

abbrev pub invariant-loop-rest : goal.invariant-loop-rest
invariant-loop-rest l =
    of_parts (λ parts. not (has_name l.name parts)) (map string_bytes l.words) ≡ of_parts (λ parts. not (has_name l.name parts)) (map string_bytes l.rest)

abbrev pub decreases-loop-rest : goal.decreases-loop-rest
decreases-loop-rest l = length l.rest
