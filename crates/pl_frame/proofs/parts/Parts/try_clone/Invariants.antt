use Rattle.std.proofs.Common.{◌≡◌, take}
use Rattle.pl_frame.specs.Parts.{parts_cells}
use Rattle.pl_frame.proofs.parts.Parts.try_clone.Given as goal

abbrev pub invariant-loop-part : goal.invariant-loop-part
invariant-loop-part l = l.copy ≡ parts_cells (take l.part-index l.part-items)
