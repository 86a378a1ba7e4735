-- Comment prefixes, and the lines that begin with one (docs/grammar.md, "Comments"; RFC 4180 has none).
use Rattle.std.specs.Borrow.{Bor}
use Rattle.std.specs.Prelude.{ℕ, Bool, false, if◌then◌else◌, nat_lt, List, [], ◌∷◌, Option, None, Some, nat_eq}
use Rattle.std.specs.List.{starts_with}
use Rattle.pl_scan.specs.declared.comment.CommentPrefix.{CommentPrefix}
use Rattle.pl_scan.specs.declared.comment.CommentPrefix.TheVariants.{Single, Multi}

-- the bytes of a comment prefix
abbrev pub prefix_bytes : CommentPrefix → List ℕ
prefix_bytes (Single byte) = byte ∷ []
prefix_bytes (Multi text) = text

-- the bytes of the comment prefix behind a reference, where there is one
abbrev pub prefix_of : Option (Bor CommentPrefix) → Option (List ℕ)
prefix_of None = None
prefix_of (Some prefix) = Some (prefix_bytes prefix.now)

-- the comment prefix that a text stands for: one ASCII byte, or any other text
abbrev pub prefix_from : List ℕ → CommentPrefix
prefix_from [] = Multi []
prefix_from (x ∷ []) = if nat_lt x 128 then Single x else Multi (x ∷ [])
prefix_from (x ∷ y ∷ text) = Multi (x ∷ y ∷ text)

-- the list begins with the comment prefix, where there is one
abbrev pub is_comment : Option (List ℕ) → List ℕ → Bool
is_comment None b = false
is_comment (Some prefix) b = starts_with nat_eq b prefix
