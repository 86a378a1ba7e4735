use Rattle.std.proofs.Common.{◌≡◌, take, count_by, is_none}
use Rattle.pl_frame.specs.Parts.{parts_cells}
use Rattle.pl_frame.proofs.parts.Parts.null_count.Given as goal

abbrev pub invariant-loop-part : goal.invariant-loop-part
invariant-loop-part l = l.nulls ≡ count_by is_none (parts_cells (take l.part-index l.part-items))
