use Rattle.std.proofs.Common.{rules, arith, refl}
use Rattle.pl_seek.proofs.PlaceLaws.{seen-first, seen-other}
use Rattle.pl_seek.proofs.places.Groups.add.Goals as goal
use Rattle.pl_seek.proofs.places.Groups.add.Goals.{then-self-eq0+in_ok-push, else-self-eq0}

pub returns-clause-seen : goal.returns-clause-seen
returns-clause-seen c = elim c.if-self-eq0.branch [
  | then-self-eq0+in_ok-push w ↦ λ seen has. rw w.self-is (seen-first c.args.self.now _ c.args.place refl refl seen has (search rules) refl (search rules))
  | else-self-eq0 w ↦ λ seen has. rw w.self-is (seen-other c.args.self.now _ c.args.place refl refl seen has (omega arith) refl refl)
]
