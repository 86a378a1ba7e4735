use Rattle.std.proofs.Common.{rules, arith, ap, sym, cond}
use Rattle.pl_stream.proofs.HeadLaws.{reach_comment, reach_header}
use Rattle.pl_stream.proofs.head.pass_header.Goals as goal

pub returns-then-is_comment_line-clause-reached : goal.returns-then-is_comment_line-clause-reached
returns-then-is_comment_line-clause-reached c = reach_comment c.args.options.now c.requires c.in_ok-len.len c.args.bytes.now c.in_ok-len.ensures.some c.in_ok-len.ensures.within (search rules)

pub returns-then-options-clause-reached : goal.returns-then-options-clause-reached
returns-then-options-clause-reached c =
    let len = c.in_ok-len.len in
    reach_header c.args.options.now c.requires len len c.args.bytes.now c.in_ok-len.ensures.some c.in_ok-len.ensures.within (search rules) (ap (λ t. cond t len 0) (sym c.if-options.true)) c.in_ok-len.ensures.within

pub returns-else-options-clause-reached : goal.returns-else-options-clause-reached
returns-else-options-clause-reached c =
    let len = c.in_ok-len.len in
    reach_header c.args.options.now c.requires len 0 c.args.bytes.now c.in_ok-len.ensures.some c.in_ok-len.ensures.within (search rules) (ap (λ t. cond t len 0) (sym c.if-options.false)) (omega arith)
