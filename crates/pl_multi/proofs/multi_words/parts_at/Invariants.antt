use Rattle.std.proofs.Common.{◌≡◌, map, string_bytes, take}
use Rattle.pl_multi.specs.Words.{part_at}
use Rattle.pl_multi.proofs.multi_words.parts_at.Given as goal

abbrev pub invariant-loop-path : goal.invariant-loop-path
invariant-loop-path l = l.parts.items ≡ map part_at (map string_bytes (take l.path-index l.paths))
