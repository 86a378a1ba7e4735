-- Dialects: the bytes that cut a text into records and fields (RFC 4180, section 2; docs/grammar.md, "Dialect").
use Rattle.std.specs.Prelude.{◌≡◌, ◌≢◌, ℕ, ◌<◌, true, List, length, Option, IfSome, not, ◌==◌}
use Rattle.std.specs.List.{list_all}

-- the bytes that cut a record: the separator, the quote if there is one, and the line end
pub record Marks : Type 0 where
  pub separator : ℕ
  pub quote : Option ℕ
  pub line_end : ℕ

-- the marks of these three
abbrev pub marks : ℕ → Option ℕ → ℕ → Marks
marks separator quote line_end = record { separator = separator; quote = quote; line_end = line_end }

-- the marks differ from one another
abbrev pub AreDistinct : Marks → Type 0
AreDistinct m = (m.separator ≢ m.line_end) × IfSome m.quote (λ q. (q ≢ m.separator) × (q ≢ m.line_end))

-- an ASCII byte that is no carriage return
abbrev pub IsMark : ℕ → Type 0
IsMark x = (x < 128) × (x ≢ 13)

-- a comment prefix has bytes, but not the line end
abbrev pub IsCommentPrefix : ℕ → Option (List ℕ) → Type 0
IsCommentPrefix e comment = IfSome comment (λ prefix. (0 < length prefix) × (list_all (λ x. not (x == e)) prefix ≡ true))

-- The marks are ASCII and differ from one another, the separator and the quote are no carriage returns, and a comment
-- prefix has bytes, but not the line end.
pub record IsDialect (m : Marks) (comment : Option (List ℕ)) : Type 0 where
  pub separator : IsMark m.separator
  pub line_end : m.line_end < 128
  pub quote : IfSome m.quote IsMark
  pub distinct : AreDistinct m
  pub prefix : IsCommentPrefix m.line_end comment
