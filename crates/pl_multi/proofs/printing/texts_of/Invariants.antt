use Rattle.std.proofs.Common.{◌≡◌, map, take}
use Rattle.std.specs.Cow.{cow_slice_items}
use Rattle.std.specs.List.{concat}
use Rattle.pl_multi.proofs.printing.texts_of.Given as goal

abbrev pub invariant-loop-kept : goal.invariant-loop-kept
invariant-loop-kept l = concat (map cow_slice_items l.texts.items) ≡ concat (take l.kept-index l.lines)
