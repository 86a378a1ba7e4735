use Rattle.std.proofs.Common.{◌≡◌, ◌+◌, ◌≤◌, length}
use Rattle.std.specs.Prelude.{count_by}
use Rattle.pl_frame.specs.Dialect.{marks}
use Rattle.pl_scan.specs.Comment.{prefix_of}
use Rattle.pl_scan.specs.Items.{items}
use Rattle.pl_scan.specs.RowCount.{is_row}
use Rattle.pl_scan.proofs.rows.count_rows_of.Given as goal

abbrev pub invariant-loop-item : goal.invariant-loop-item
invariant-loop-item l = record {
  few : l.number + length l.item-iterator ≤ length l.bytes;
  counted : l.number + count_by (is_row (prefix_of l.comment_prefix)) l.item-iterator
      ≡ count_by (is_row (prefix_of l.comment_prefix)) (items (marks l.separator l.fn.quote_char l.eol_char) (prefix_of l.comment_prefix) l.bytes);
}
