use Rattle.std.proofs.Common.{◌++◌, List, ℕ}
use Rattle.std.specs.List.{concat}
use Rattle.pl_read.specs.Arriving.{IsLinkedUpTo}
use Rattle.pl_read.proofs.line.Line.link.Given as goal

abbrev pub invariant-loop : goal.invariant-loop
invariant-loop g l = (text : List ℕ) → IsLinkedUpTo l.fn.plan l.fn.schema text (l.initial.self.left.items ++ concat l.initial.self.pending) l.initial.self.linked
    → IsLinkedUpTo l.fn.plan l.fn.schema text (l.self.left.items ++ concat l.self.pending) l.self.linked
