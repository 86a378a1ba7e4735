use Rattle.std.proofs.Common.{rules, ◌-◌, ap, inr, drop}
use Rattle.std.proofs.lemmas.List.{nil_from_length}
use Rattle.pl_scan.specs.Dialect.{marks_of, comment_of}
use Rattle.pl_table.specs.Rows.{rows}
use Rattle.pl_seek.proofs.PartLaws.{passed-more, passed-all}
use Rattle.pl_seek.proofs.part.behind_records.Goals as goal

pub loop-left-preserved : goal.loop-left-preserved
loop-left-preserved c =
    let m = marks_of c.args.dialect.now in
    let comment = comment_of c.args.dialect.now in
    passed-more m comment c.loop-left.rest.now c.behind_item-rest.result.now (drop c.args.count (rows m comment c.args.part.now)) c.loop-left.left _ c.front_item-is_comment.result.1 c.front_item-is_comment.result.0
    c.requires (search rules) (search rules) c.front_item-is_comment.ensures.comment c.front_item-is_comment.ensures.len c.behind_item-rest.ensures (ap (λ n. c.loop-left.left - n) c.one_unless-left.ensures) c.loop-left.invariant

pub returns-else-not-is_empty : goal.returns-else-not-is_empty
returns-else-not-is_empty c =
    let m = marks_of c.args.dialect.now in
    let comment = comment_of c.args.dialect.now in
    passed-all m comment c.loop-left.rest.now (drop c.args.count (rows m comment c.args.part.now)) c.loop-left.left (inr (nil_from_length c.loop-left.rest.now (search rules))) c.loop-left.invariant
