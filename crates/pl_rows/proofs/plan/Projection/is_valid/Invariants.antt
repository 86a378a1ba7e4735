use Rattle.std.proofs.Common.{◌↔◌, drop}
use Rattle.pl_rows.specs.Plan.{AreRising}
use Rattle.pl_rows.proofs.plan.Projection.is_valid.Given as goal

abbrev pub invariant-loop-place : goal.invariant-loop-place
invariant-loop-place l =
    AreRising 0 l.self.width l.self.places.now ↔ AreRising l.next l.self.width (drop l.place-index l.self.places.now)
