use Rattle.std.proofs.Common.{◌∙◌, sym, length, arith, rules}
use Rattle.pl_scan.specs.Comment.{prefix_of}
use Rattle.pl_scan.proofs.ItemLaws.{comment-len}
use Rattle.pl_scan.proofs.LineLaws.{line-comment}
use Rattle.pl_scan.proofs.lines.line_len.Goals as goal

pub returns-in-Some-clause-line : goal.returns-in-Some-clause-line
returns-in-Some-clause-line c =
    let b = c.args.slice.now in
    let n = c.in-Some.at in
    line-comment c.args.quote_char c.args.eol_char (prefix_of c.args.comment_prefix) b n (sym c.is_comment_line.ensures ∙ c.if-is_comment_line.true) (comment-len c.args.eol_char b n (search rules) (search rules) (search rules))

pub returns-in-None-clause-line : goal.returns-in-None-clause-line
returns-in-None-clause-line c =
    let b = c.args.slice.now in
    line-comment c.args.quote_char c.args.eol_char (prefix_of c.args.comment_prefix) b (length b) (sym c.is_comment_line.ensures ∙ c.if-is_comment_line.true)
    (comment-len c.args.eol_char b (length b) (omega arith) (search rules) (search rules))
