use Rattle.std.proofs.Common.{All, Vec, Global}
use Rattle.pl_multi.specs.Cells.{token_bytes}
use Rattle.pl_multi.specs.Groups.{IsTakenOf}
use Rattle.pl_multi.specs.declared.settling.TakenPart.{TakenPart}
use Rattle.pl_multi.proofs.settling.settle_each.Given as goal

abbrev pub invariant-loop-taken : goal.invariant-loop-taken
invariant-loop-taken l = All (λ (parts : Vec TakenPart Global). All (IsTakenOf l.read l.write (token_bytes l.tokens.items)) parts.items) l.settled.items
