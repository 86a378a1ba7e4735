use Rattle.std.proofs.Common.{◌≡◌, map}
use Rattle.std.proofs.Common.{ℕ, List, [], Bor}
use Rattle.std.proofs.lemmas.List.{get_or-map}
use Rattle.pl_terminal.specs.Nearest.{distance_at}
use Rattle.pl_terminal.proofs.NearestLaws.{search_keeps, search_finds}
use Rattle.pl_terminal.proofs.nearest.nearest.Goals.{then-changes-least, else-changes-least}
use Rattle.pl_terminal.proofs.nearest.nearest.Goals as goal

pub loop-place-preserved : goal.loop-place-preserved
loop-place-preserved c =
    let e : c.in_ok-changes.changes ≡ distance_at c.args.word.now (map (λ other. other.now) c.args.words.now) c.loop-place.place = let h = c.in_ok-changes.ensures in
    let l = c.loop-place-test.true in rw (get_or-map {X = Bor (List ℕ)} (λ other. other.now) c.args.words.now c.loop-place.place (record { ref_ptr = (0, 0); now = [] }) [] l) h in
    elim c.if-changes-least.branch [
      | then-changes-least w ↦ rw (w.least-is, w.found-is) (search_finds _ _ _ _ _ _ _ e w.if-changes-least.true c.loop-place.invariant)
      | else-changes-least w ↦ rw (w.least-is, w.found-is) (search_keeps _ _ _ _ _ _ _ e w.if-changes-least.false c.loop-place.invariant)
    ]
