use Rattle.pl_scan.specs.Comment.{prefix_of}
use Rattle.pl_scan.proofs.LineLaws.{length-lines}
use Rattle.pl_scan.proofs.lines.SplitLines.new.Goals as goal

pub returns-clause-len : goal.returns-clause-len
returns-clause-len c = length-lines c.args.quote_char c.args.eol_char (prefix_of c.args.comment_prefix) c.args.slice.now
