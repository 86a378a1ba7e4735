use Rattle.pl_frame.specs.Dialect.{marks}
use Rattle.pl_scan.specs.Comment.{prefix_of}
use Rattle.pl_scan.proofs.ItemLaws.{length-items}
use Rattle.pl_scan.proofs.items.Items.new.Goals as goal

pub returns-clause-len : goal.returns-clause-len
returns-clause-len c = length-items (marks c.args.separator c.args.quote_char c.args.eol_char) (prefix_of c.args.comment_prefix) c.args.bytes.now
