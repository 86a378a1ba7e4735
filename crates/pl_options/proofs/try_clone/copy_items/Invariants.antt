use Rattle.std.proofs.Common.{◌≡◌, take}
use Rattle.pl_options.proofs.try_clone.copy_items.Given as goal

abbrev pub invariant-loop-item : goal.invariant-loop-item
invariant-loop-item g l = l.copies.items ≡ take l.item-index l.items
