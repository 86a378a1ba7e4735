-- Marks of compressed streams (docs/command-line.md, "Statuses").
use Rattle.std.specs.Prelude.{ℕ, Bool, nat_eq, List, [], ◌∷◌}
use Rattle.std.specs.List.{list_any, starts_with}

-- how the streams of gzip, zlib and zstd begin
abbrev pub compression_marks : List (List ℕ)
compression_marks = (31 ∷ 139 ∷ []) ∷ (120 ∷ 1 ∷ []) ∷ (120 ∷ 156 ∷ []) ∷ (120 ∷ 218 ∷ []) ∷ (40 ∷ 181 ∷ 47 ∷ 253 ∷ []) ∷ []

-- bytes that begin with one of these marks
abbrev pub is_compressed : List ℕ → Bool
is_compressed bytes = list_any (starts_with nat_eq bytes) compression_marks
