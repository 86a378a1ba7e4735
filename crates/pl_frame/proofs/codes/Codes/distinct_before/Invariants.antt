use Rattle.std.proofs.Common.{◌≡◌, take, length}
use Rattle.pl_frame.specs.Categories.{dictionary_of}
use Rattle.pl_frame.proofs.codes.Codes.distinct_before.Given as goal

abbrev pub invariant-loop-i : goal.invariant-loop-i
invariant-loop-i l = l.distinct ≡ length (dictionary_of (take l.i l.self))
