use Rattle.std.proofs.Common.{◌≡◌, ◌++◌, ◌-◌}
use Rattle.pl_terminal.specs.Shown.{shown}
use Rattle.pl_terminal.proofs.message.Message.add_shown.Given as goal

abbrev pub invariant-loop-turn : goal.invariant-loop-turn
invariant-loop-turn l = l.self ++ shown (l.most - l._turn) l.rest ≡ l.fn.self ++ shown l.most l.bytes
