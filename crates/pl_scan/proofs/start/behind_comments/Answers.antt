use Rattle.std.proofs.Common.{◌≡◌, ◌<◌, ◌∙◌, sym, ap, true, length, rules}
use Rattle.pl_frame.specs.Dialect.{marks}
use Rattle.pl_scan.specs.Comment.{is_comment}
use Rattle.pl_scan.specs.Comment.{prefix_of}
use Rattle.pl_scan.specs.Start.{pass_comments}
use Rattle.pl_scan.proofs.StartLaws.{pass_comments-turn, behind_item-is}
use Rattle.pl_scan.proofs.start.behind_comments.Goals as goal

pub loop-comment_prefix-preserved : goal.loop-comment_prefix-preserved
loop-comment_prefix-preserved c =
    let m = marks c.args.separator c.args.quote_char c.args.eol_char in
    let comment = prefix_of c.args.comment_prefix in
    let b = c.loop-comment_prefix.rest.now in
    let is : is_comment comment b ≡ true = sym c.is_comment_line.ensures ∙ c.if-is_comment_line.true in
    let some : 0 < length b = search rules in
    let left = behind_item-is m comment b _ c.first_item-len.result.1 _ c.first_item-len.ensures.item c.first_item-len.ensures.len c.behind_line_end-rest.ensures in
    ap (pass_comments m comment) left ∙ sym (pass_comments-turn m comment b some is) ∙ c.loop-comment_prefix.invariant
