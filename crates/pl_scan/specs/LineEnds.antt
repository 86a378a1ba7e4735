-- Line ends behind an even number of quotes, and how much of a text is searched for one (docs/grammar.md, "Line ends at even parity").
use Rattle.std.specs.Prelude.{ℕ, zero, suc, ◌+◌, ◌*◌, ◌%◌, Bool, false, not, ◌&&◌, ◌||◌, ◌==◌, nat_le, nat_lt, List, [], ◌∷◌, length, take, drop, Option, unwrap_or, filter, find, count_by}
use Rattle.std.specs.List.{range_with_len}
use Rattle.pl_scan.specs.Fields.{is_quote}

-- the bytes that a count of line ends looks at
pub record LineMarks : Type 0 where
  pub quote : Option ℕ
  pub line_end : ℕ

-- the list begins with a line end that is no quote
abbrev pub begins_end : Option ℕ → ℕ → List ℕ → Bool
begins_end quote e [] = false
begins_end quote e (x ∷ xs) = x == e && not (is_quote quote x)

-- a prefix with an even number of quotes, followed by a line end that is no quote
abbrev pub is_even_cut : Option ℕ → ℕ → List ℕ × List ℕ → Bool
is_even_cut quote e cut = begins_end quote e cut.1 && count_by (is_quote quote) cut.0 % 2 == 0

-- the list is cut so before this place
abbrev pub is_even_end : Option ℕ → ℕ → List ℕ → ℕ → Bool
is_even_end quote e b k = is_even_cut quote e (take k b, drop k b)

-- the places of such line ends
unfoldable pub even_ends : Option ℕ → ℕ → List ℕ → List ℕ
even_ends quote e b = filter (is_even_end quote e b) (range_with_len 0 (length b))

-- n, 2 n, 4 n and so on, k of them
abbrev pub doublings : ℕ → ℕ → List ℕ
doublings n zero = []
doublings n (suc k) = n ∷ doublings (2 * n) k

-- the prefix of this length has such a place or is all of the list
abbrev pub is_enough : Option ℕ → ℕ → List ℕ → ℕ → Bool
is_enough quote e b n = nat_lt 0 (length (even_ends quote e (take n b))) || nat_le (length b) n

-- the least of n, 2 n, 4 n, .. that is enough
unfoldable pub cut_size : Option ℕ → ℕ → List ℕ → ℕ → ℕ
cut_size quote e b n = unwrap_or (find (is_enough quote e b) (doublings n (length b + 1))) n
