use Rattle.std.proofs.Common.{◌≡◌, ◌≤◌, length, drop, map, take}
use Rattle.std.specs.List.{concat}
use Rattle.pl_scan.specs.LineCuts.{RiseTo}
use Rattle.pl_regions.proofs.printing.texts_between.Given as goal

abbrev pub invariant-loop-end : goal.invariant-loop-end
invariant-loop-end l = record {
  from : l.from ≤ length l.bytes;
  cut : concat (map (λ text. text.now) l.texts.items) ≡ take l.from l.bytes;
  rise : RiseTo (length l.bytes) l.from (drop l.end-index l.ends);
}
