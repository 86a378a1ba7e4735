use Rattle.std.proofs.Common.{sym, nat_le}
use Rattle.pl_frame.specs.Dialect.{marks}
use Rattle.pl_scan.specs.Comment.{prefix_of}
use Rattle.pl_scan.specs.Start.{skips}
use Rattle.pl_scan.proofs.StartLaws.{IsEndOf-data_left, IsEndOf-place}
use Rattle.pl_scan.proofs.start.find_starting_point.Goals as goal

pub overflow_sub-result : goal.overflow_sub-result
overflow_sub-result c =
    let m = marks c.args.separator c.args.quote_char c.args.eol_char in
    let comment = prefix_of c.args.comment_prefix in
    let o = skips c.args.skip_lines c.args.skip_rows_before_header c.args.has_header c.args.skip_rows_after_header in
    let keep = nat_le c.args.schema_len 1 in
    let b = c.args.bytes.now in
    let left = c.in-Some.left.now in (IsEndOf-place b left (IsEndOf-data_left o keep m comment b left (sym c.in-Some.ensures))).0
