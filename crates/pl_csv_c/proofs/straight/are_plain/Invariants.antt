use Rattle.std.proofs.Common.{take}
use Rattle.pl_csv_c.specs.Growing.{ArePlainAt}
use Rattle.pl_csv_c.proofs.straight.are_plain.Given as goal

abbrev pub invariant-loop-place : goal.invariant-loop-place
invariant-loop-place l = ArePlainAt l.schema (take l.place-index l.places)
