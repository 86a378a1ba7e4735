-- What a dialect says: its marks and its comment prefix (docs/grammar.md, "Dialect").
use Rattle.std.specs.Prelude.{ℕ, List, Option}
use Rattle.pl_frame.specs.Dialect.{Marks, marks}
use Rattle.pl_scan.specs.declared.dialect.Dialect.{Dialect}
use Rattle.pl_scan.specs.Comment.{prefix_of}

-- the bytes that cut a record
abbrev pub marks_of : Dialect → Marks
marks_of dialect = marks dialect.separator dialect.quote_char dialect.eol_char

-- the bytes that a comment begins with, where there are comments
abbrev pub comment_of : Dialect → Option (List ℕ)
comment_of dialect = prefix_of dialect.comment_prefix
