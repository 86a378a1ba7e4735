use Rattle.std.proofs.Common.{◌≤◌, length, map, take}
use Rattle.std.specs.Prelude.{IfSome}
use Rattle.std.specs.Cow.{cow_slice_items}
use Rattle.std.specs.List.{concat}
use Rattle.pl_write.specs.Options.{cell_options}
use Rattle.pl_regions.proofs.RegionLaws.{IsFrontOf}
use Rattle.pl_regions.proofs.front.front_of.Given as goal

abbrev pub invariant-loop-place : goal.invariant-loop-place
invariant-loop-place l = record {
  is : IsFrontOf l.plan l.schema (cell_options l.options) (take (length l.yielded) (map (λ text. text.now) l.texts)) l.front.end l.front.rows (concat (map cow_slice_items l.front.lines.items));
  few : IfSome l.most (λ most. l.front.rows ≤ most);
}
