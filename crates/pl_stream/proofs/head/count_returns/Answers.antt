use Rattle.std.proofs.Common.{arith, length-drop, ◌||◌, ◌==◌}
use Rattle.std.specs.List.{prefix_len}
use Rattle.std.proofs.lemmas.List.Sums.{prefix_len-le-length}
use Rattle.pl_stream.proofs.head.count_returns.Goals as goal

pub returns-clause-none : goal.returns-clause-none
returns-clause-none c = λ none kept other.
    omega (arith, none, c.count_ends.ensures.count, length-drop (prefix_len (λ x. x == 13 || x == 13) c.args.bytes.now) c.args.bytes.now, prefix_len-le-length (λ x. x == 13 || x == 13) c.args.bytes.now)
