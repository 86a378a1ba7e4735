use Rattle.std.proofs.Common.{◌≡◌, ℕ, ◌<◌, false, map}
use Rattle.pl_frame.specs.Names.{is_repeat}
use Rattle.pl_frame.proofs.name.find_repeat.Given as goal

abbrev pub invariant-loop-place : goal.invariant-loop-place
invariant-loop-place g l = (k : ℕ) → k < l.place → is_repeat (map g.T.Named.name l.items) k ≡ false
