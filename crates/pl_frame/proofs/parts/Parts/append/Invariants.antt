use Rattle.std.proofs.Common.{◌≡◌, ◌++◌}
use Rattle.pl_frame.specs.Parts.{parts_cells}
use Rattle.pl_frame.proofs.parts.Parts.append.Given as goal

abbrev pub invariant-loop-part : goal.invariant-loop-part
invariant-loop-part l = l.self ≡ l.initial.self ++ parts_cells l.yielded
