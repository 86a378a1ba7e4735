use Rattle.std.proofs.Common.{ℕ, ◌-◌, ◌≤◌, length}
use Rattle.std.specs.Prelude.{IfSome}
use Rattle.pl_stream.specs.Whole.{IsWholeFront}
use Rattle.pl_stream.proofs.whole.whole_records.Given as goal

abbrev pub invariant-loop-limit : goal.invariant-loop-limit
invariant-loop-limit l = record {
  front : IsWholeFront l.options l.bytes l.whole;
  few : IfSome l.limit (λ most. l.whole.rows ≤ most);
}

abbrev pub decreases-loop-limit : goal.decreases-loop-limit
decreases-loop-limit l = length l.bytes - l.whole.end
