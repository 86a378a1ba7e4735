use Rattle.std.proofs.Common.{◌≤◌, ◌-◌, ◌^◌, ℕ, List, Option, length}
use Rattle.std.specs.Io.KnownBytes.{Consumes}
use Rattle.pl_multi.proofs.paths.read_behind.Given as goal

abbrev pub invariant-loop-block : goal.invariant-loop-block
invariant-loop-block g l = record {
  came : (first : Option (List ℕ)) → Consumes first (g.So.Source.left l.fn.source) l.fn.bytes.items → Consumes first (g.So.Source.left l.source) l.bytes.items;
  later : g.So.Source.faults l.fn.source ≤ g.So.Source.faults l.source;
}

abbrev pub decreases-loop-block : goal.decreases-loop-block
decreases-loop-block g l = 2 ^ 64 - length l.bytes.items
