use Rattle.std.proofs.Common.{◌≡◌, ◌++◌, map}
use Rattle.std.specs.Cow.{cow_slice_items}
use Rattle.std.specs.List.{concat}
use Rattle.pl_regions.proofs.kept.append_own.Given as goal

abbrev pub invariant-loop-text : goal.invariant-loop-text
invariant-loop-text l = concat (map (λ text. text.items) l.lines.items) ≡ concat (map (λ text. text.items) l.initial.lines.items) ++ concat (map cow_slice_items l.yielded)
