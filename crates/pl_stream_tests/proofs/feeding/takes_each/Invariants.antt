use Rattle.std.proofs.Common.{◌≡◌, false}
use Rattle.pl_stream_tests.proofs.feeding.takes_each.Given as goal

abbrev pub invariant-loop-number : goal.invariant-loop-number
invariant-loop-number g l = l.state.is_finished ≡ false
