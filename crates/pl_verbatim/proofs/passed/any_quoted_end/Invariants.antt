use Rattle.std.proofs.Common.{length, ◌-◌, ◌<◌, ◌≤◌, ◌+◌}
use Rattle.std.specs.List.{slice_range}
use Rattle.pl_verbatim.proofs.PassedLaws.{IsAny}
use Rattle.pl_verbatim.proofs.TextInnerLaws.{HasInner}
use Rattle.pl_verbatim.proofs.passed.any_quoted_end.Given as goal

abbrev pub invariant-loop-from : goal.invariant-loop-from
invariant-loop-from l = record {
  behind : l.at < l.from;
  within : l.from ≤ length l.text;
  read : HasInner IsAny l.quote (slice_range l.text (l.at + 1) l.from);
}

abbrev pub decreases-loop-from : goal.decreases-loop-from
decreases-loop-from l = length l.text - l.from
