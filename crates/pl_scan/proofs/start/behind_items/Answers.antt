use Rattle.std.proofs.Common.{◌<◌, ◌-◌, ◌+◌, ◌∙◌, sym, ap, length, rules}
use Rattle.pl_frame.specs.Dialect.{marks}
use Rattle.pl_scan.specs.Comment.{prefix_of}
use Rattle.pl_scan.specs.Start.{pass_items}
use Rattle.pl_scan.proofs.StartLaws.{pass_items-turn, behind_item-is}
use Rattle.pl_scan.proofs.start.behind_items.Goals as goal

pub loop-turn-preserved : goal.loop-turn-preserved
loop-turn-preserved c =
    let m = marks c.args.separator c.args.quote_char c.args.eol_char in
    let comment = prefix_of c.args.comment_prefix in
    let b = c.loop-turn.rest.now in
    let some : 0 < length b = search rules in
    let left = behind_item-is m comment b _ c.first_item-len.result.1 _ c.first_item-len.ensures.item c.first_item-len.ensures.len c.behind_line_end-rest.ensures in
    ap (pass_items m comment (c.args.count - (c.loop-turn._turn + 1))) left ∙ sym (pass_items-turn m comment c.args.count c.loop-turn._turn b c.loop-turn-test.true some) ∙ c.loop-turn.invariant
