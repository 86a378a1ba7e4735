use Rattle.std.proofs.Common.{rules}
use Rattle.pl_stream.proofs.HeadLaws.{reach_lines, reach_mark}
use Rattle.pl_stream.proofs.head.pass_start.Goals as goal

pub returns-then-options-gt0-clause-reached : goal.returns-then-options-gt0-clause-reached
returns-then-options-gt0-clause-reached c = reach_lines c.args.options.now c.args.bytes.now (search rules)

pub returns-clause-reached : goal.returns-clause-reached
returns-clause-reached c = reach_mark c.args.options.now _ c.args.bytes.now (search rules) (search rules) (search rules)
