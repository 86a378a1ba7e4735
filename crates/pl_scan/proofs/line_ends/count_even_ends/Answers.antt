use Rattle.std.proofs.Common.{arith}
use Rattle.pl_scan.proofs.EvenCountLaws.{HasCounted-all}
use Rattle.pl_scan.proofs.line_ends.count_even_ends.Goals as goal

pub returns-clause-number : goal.returns-clause-number
returns-clause-number c = (HasCounted-all c.args.quote_char c.args.eol_char c.args.bytes.now c.loop-i.i c.loop-i.counted c.loop-i.invariant (omega arith)).0

pub returns-clause-last : goal.returns-clause-last
returns-clause-last c = (HasCounted-all c.args.quote_char c.args.eol_char c.args.bytes.now c.loop-i.i c.loop-i.counted c.loop-i.invariant (omega arith)).1
