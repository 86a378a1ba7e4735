use Rattle.std.proofs.Common.{◌≡◌, ◌++◌, take}
use Rattle.std.specs.List.{flat_map}
use Rattle.pl_terminal.specs.Shown.{escape}
use Rattle.pl_terminal.proofs.message.Message.add_all_escaped.Given as goal

abbrev pub invariant-loop-byte : goal.invariant-loop-byte
invariant-loop-byte l = l.self ≡ l.initial.self ++ flat_map escape (take l.byte-index l.bytes)
