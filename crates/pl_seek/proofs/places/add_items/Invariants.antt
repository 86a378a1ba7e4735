use Rattle.std.proofs.Common.{◌≡◌, length}
use Rattle.pl_scan.specs.Dialect.{marks_of, comment_of}
use Rattle.pl_seek.specs.Grouping.{HasCome}
use Rattle.pl_seek.proofs.places.add_items.Given as goal

abbrev pub invariant-loop-rest : goal.invariant-loop-rest
invariant-loop-rest l = HasCome (marks_of l.dialect) (comment_of l.dialect) l.input l.start l.groups l.rest × (l.groups.every ≡ l.fn.groups.every)

abbrev pub decreases-loop-rest : goal.decreases-loop-rest
decreases-loop-rest l = length l.rest
