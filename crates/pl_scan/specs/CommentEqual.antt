-- When comment prefixes are equal (docs/grammar.md, "Comments").
use Rattle.std.specs.Prelude.{◌≡◌, Bool}
use Rattle.std.specs.Bool.{Decides}
use Rattle.pl_scan.specs.contracts.comment.CommentPrefixPartialEq.TheImpl as prefixes
use Rattle.pl_scan.specs.declared.comment.CommentPrefix.{CommentPrefix}

-- what `==` of comment prefixes answers
abbrev pub prefixes_equal : CommentPrefix → CommentPrefix → Bool
prefixes_equal = prefixes.ghosts.eq

-- it tells whether two of them are one
abbrev pub PrefixesAreTold : Type 0
PrefixesAreTold = (a b : CommentPrefix) → Decides (prefixes_equal a b) (a ≡ b)
