use Rattle.std.proofs.Common.{All}
use Rattle.pl_multi.specs.Cells.{token_bytes}
use Rattle.pl_multi.specs.Groups.{IsTakenOf}
use Rattle.pl_multi.proofs.settling.settle.Given as goal

abbrev pub invariant-loop-one : goal.invariant-loop-one
invariant-loop-one l = All (IsTakenOf l.read l.write (token_bytes l.tokens.items)) l.parts.items
