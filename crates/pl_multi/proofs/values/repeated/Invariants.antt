use Rattle.std.proofs.Common.{◌≡◌, replicate, Some}
use Rattle.pl_multi.proofs.values.repeated.Given as goal

abbrev pub invariant-loop-row : goal.invariant-loop-row
invariant-loop-row l = l.texts ≡ replicate l._row (Some l.fn.text)
