use Rattle.std.proofs.Common.{◌≡◌, length}
use Rattle.pl_frame.specs.Dialect.{marks}
use Rattle.pl_scan.specs.Comment.{prefix_of}
use Rattle.pl_scan.specs.Start.{pass_comments}
use Rattle.pl_scan.proofs.start.behind_comments.Given as goal

abbrev pub invariant-loop-comment_prefix : goal.invariant-loop-comment_prefix
invariant-loop-comment_prefix l = pass_comments (marks l.separator l.quote_char l.eol_char) (prefix_of l.comment_prefix) l.rest ≡ pass_comments (marks l.separator l.quote_char l.eol_char) (prefix_of l.comment_prefix) l.input

abbrev pub decreases-loop-comment_prefix : goal.decreases-loop-comment_prefix
decreases-loop-comment_prefix l = length l.rest
