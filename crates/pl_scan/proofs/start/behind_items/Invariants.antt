use Rattle.std.proofs.Common.{◌≡◌, ◌-◌}
use Rattle.pl_frame.specs.Dialect.{marks}
use Rattle.pl_scan.specs.Comment.{prefix_of}
use Rattle.pl_scan.specs.Start.{pass_items}
use Rattle.pl_scan.proofs.start.behind_items.Given as goal

abbrev pub invariant-loop-turn : goal.invariant-loop-turn
invariant-loop-turn l = pass_items (marks l.separator l.quote_char l.eol_char) (prefix_of l.comment_prefix) (l.count - l._turn) l.rest ≡ pass_items (marks l.separator l.quote_char l.eol_char) (prefix_of l.comment_prefix) l.count l.input
