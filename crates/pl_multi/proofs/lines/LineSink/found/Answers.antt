use Rattle.std.proofs.Common.{arith}
use Rattle.pl_multi.proofs.LineLaws.{found-lines}
use Rattle.pl_multi.proofs.lines.LineSink.found.Goals as goal

pub returns-clause-lines : goal.returns-clause-lines
returns-clause-lines c = λ lines is. found-lines c.args.self.text.now c.args.text.now c.args.self.copied.items lines c.args.self.len (omega (arith, c.if-mine-text.false)) is
