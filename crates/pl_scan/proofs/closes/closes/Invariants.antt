use Rattle.std.proofs.Common.{◌≡◌}
use Rattle.std.specs.Prelude.{None}
use Rattle.std.specs.List.{last_or}
use Rattle.std.specs.Option.{option_map}
use Rattle.pl_frame.specs.Dialect.{marks}
use Rattle.pl_scan.specs.Comment.{prefix_of}
use Rattle.pl_scan.specs.Items.{item_text, items}
use Rattle.pl_scan.proofs.closes.closes.Given as goal

abbrev pub invariant-loop-item : goal.invariant-loop-item
invariant-loop-item l = last_or (option_map item_text l.last) l.item-iterator
    ≡ last_or None (items (marks l.separator l.quote_char l.eol_char) (prefix_of l.comment_prefix) l.piece)
