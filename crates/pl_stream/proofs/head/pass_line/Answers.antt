use Rattle.std.proofs.Common.{rules, ◌<◌, ◌+◌, ◌≡◌, Bool, false, nat_lt, ◌&&◌, length, arith, ap, ◌∙◌}
use Rattle.std.proofs.lemmas.Bool.Decides.{nat_tests}
use Rattle.pl_stream.proofs.HeadLaws.{reach_line, reach_returns, no-line}
use Rattle.pl_stream.proofs.head.pass_line.Goals as goal

pub returns-then-len-bytes-clause-reached : goal.returns-then-len-bytes-clause-reached
returns-then-len-bytes-clause-reached c = reach_line c.args.options.now c.args.left c.line_len-len.result c.args.bytes.now c.requires c.line_len-len.ensures.len (search rules)

pub returns-then-at-eq0-clause-none : goal.returns-then-at-eq0-clause-none
returns-then-at-eq0-clause-none c = (c.requires, no-line c.args.options.now c.args.bytes.now c.line_len-len.result c.line_len-len.ensures.len (search rules), c.count_returns-at.ensures.none (search rules))

pub returns-clause-reached : goal.returns-clause-reached
returns-clause-reached c =
    let at = c.count_returns-at.result in
    let some : 0 < at = search rules in
    reach_returns c.args.options.now c.args.left at c.args.bytes.now (c.count_returns-at.ensures.dropped some) (c.count_returns-at.ensures.other some) (c.count_returns-at.ensures.count some) c.count_returns-at.ensures.within
