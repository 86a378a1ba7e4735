use Rattle.std.proofs.Common.{refl}
use Rattle.pl_csv_c.proofs.CountLaws.{prefix-lent, counting-rows, counting-fault}
use Rattle.pl_options.specs.Text.{marks_of, comment_of}
use Rattle.pl_scan.specs.Comment.{prefix_of}
use Rattle.pl_csv_c.proofs.counting.count_rows.Goals as goal

pub returns-in-Ok : goal.returns-in-Ok
returns-in-Ok c =
    let o = c.args.read.now in
    let same = prefix-lent c.as_ref.result o.parse_options.comment_prefix c.as_ref.ensures.value in
    counting-rows o.has_header (marks_of o.parse_options) (prefix_of c.as_ref.result) (comment_of o.parse_options) c.args.input.now c.is_compressed.result c.in-Ok.rows c.unless_compressed.result same
    ((c.in-Ok.ensures.rows c.in-Ok.rows).0 refl) c.is_compressed.ensures c.unless_compressed.ensures

pub returns-in-Err : goal.returns-in-Err
returns-in-Err c =
    let o = c.args.read.now in
    let same = prefix-lent c.as_ref.result o.parse_options.comment_prefix c.as_ref.ensures.value in
    counting-fault o.has_header (marks_of o.parse_options) (prefix_of c.as_ref.result) (comment_of o.parse_options) c.args.input.now c.in-Err.fault same c.in-Err.ensures.dialect c.in-Err.ensures.rows
