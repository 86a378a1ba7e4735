use Rattle.std.proofs.Common.{◌≡◌, ◌≤◌, ◌-◌, length, drop, None}
use Rattle.pl_scan.specs.Dialect.{marks_of}
use Rattle.pl_seek.specs.Places.{record_places}
use Rattle.pl_seek.specs.RecordEnds.{HasBegun}
use Rattle.pl_seek.proofs.places.add_plain.Given as goal

abbrev pub invariant-loop-begin : goal.invariant-loop-begin
invariant-loop-begin l =
    HasBegun (marks_of l.dialect) l.input l.groups (record_places (marks_of l.dialect) None (length l.input) (drop l.start l.input)) l.begin
    × (l.begin ≤ length l.input) × (l.groups.every ≡ l.fn.groups.every)

abbrev pub decreases-loop-begin : goal.decreases-loop-begin
decreases-loop-begin l = length l.input - l.begin
