-- The byte order mark of UTF-8, which may stand in front of a text (docs/grammar.md, "The starting point").
use Rattle.std.specs.Prelude.{ℕ, List, [], ◌∷◌}

-- EF BB BF
abbrev pub byte_order_mark : List ℕ
byte_order_mark = 239 ∷ 187 ∷ 191 ∷ []
