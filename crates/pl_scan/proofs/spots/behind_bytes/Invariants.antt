use Rattle.std.proofs.Common.{◌≡◌}
use Rattle.pl_scan.specs.SpotRows.{marks_of}
use Rattle.pl_scan.specs.Spots.{spot_from}
use Rattle.pl_scan.proofs.SpotRowLaws.{numbers}
use Rattle.pl_scan.proofs.spots.behind_bytes.Given as goal

abbrev pub invariant-loop-i : goal.invariant-loop-i
invariant-loop-i l = l.numbers ≡ numbers (spot_from (marks_of l.steps) l.fn.spots.0 l.bytes l.at l.i) (spot_from (marks_of l.steps) l.fn.spots.1 l.bytes l.at l.i)
