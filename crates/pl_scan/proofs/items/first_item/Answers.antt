use Rattle.std.proofs.Common.{rules, arith, ◌≡◌, ◌∙◌, sym, length, take, not, ◌==◌}
use Rattle.std.specs.Prelude.{take_while}
use Rattle.pl_frame.specs.Dialect.{marks}
use Rattle.pl_scan.specs.Comment.{prefix_of}
use Rattle.pl_scan.proofs.ItemLaws.{comment-len, item-comment}
use Rattle.pl_scan.proofs.items.first_item.Goals as goal
use Rattle.pl_scan.proofs.items.first_item.Goals.{in-Some, in-None}

pub returns-after-memchr-clause-item : goal.returns-after-memchr-clause-item
returns-after-memchr-clause-item c =
    let m = marks c.args.separator c.args.quote_char c.args.eol_char in
    let len : take_while (λ x. not (x == c.args.eol_char)) c.args.slice.now ≡ take c.match-memchr.len c.args.slice.now = elim c.match-memchr.branch [
      | in-Some w ↦ rw w.len-is (comment-len c.args.eol_char c.args.slice.now w.in-Some.at (search rules) (search rules) (search rules))
      | in-None w ↦ rw w.len-is (comment-len c.args.eol_char c.args.slice.now (length c.args.slice.now) (omega arith) (search rules) (search rules))
    ] in
    item-comment m (prefix_of c.args.comment_prefix) c.args.slice.now c.match-memchr.len (sym c.is_comment_line.ensures ∙ c.if-is_comment_line.true) len
