use Rattle.std.proofs.Common.{◌≡◌, ◌≤◌, ◌-◌, length, map, take}
use Rattle.std.specs.List.{concat}
use Rattle.pl_regions.proofs.cutting.guess_regions.Given as goal

abbrev pub invariant-loop-to : goal.invariant-loop-to
invariant-loop-to l = record {
  from : l.from ≤ length l.records;
  cut : concat (map (λ text. text.now) l.texts.items) ≡ take l.from l.records;
}

abbrev pub decreases-loop-to : goal.decreases-loop-to
decreases-loop-to l = length l.records - l.to
