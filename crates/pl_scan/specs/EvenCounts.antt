-- How far a count of line ends at even parity has come in a text. This stands behind the functions that count; the contract of
-- a count says by all places of the text (LineEnds.antt) what it comes to.
use Rattle.std.specs.Prelude.{◌≡◌, ℕ, ◌%◌, Bool, ◌==◌, List, length, take, Option, None, unwrap_or, filter, count_by}
use Rattle.std.specs.List.{range_with_len, last_or}
use Rattle.pl_scan.specs.Fields.{is_quote}
use Rattle.pl_scan.specs.LineEnds.{is_even_end}
use Rattle.pl_scan.specs.declared.line_ends.Counted.{Counted}

-- those of the line ends at even parity that are among the first n bytes
abbrev pub even_ends_below : Option ℕ → ℕ → List ℕ → ℕ → List ℕ
even_ends_below quote e b n = filter (is_even_end quote e b) (range_with_len 0 n)

-- an odd number of quotes is among the first n bytes
abbrev pub is_odd_at : Option ℕ → List ℕ → ℕ → Bool
is_odd_at quote b n = count_by (is_quote quote) (take n b) % 2 == 1

-- a count has come through the first n bytes
pub record HasCounted (quote : Option ℕ) (e : ℕ) (b : List ℕ) (n : ℕ) (c : Counted) : Type 0 where
  pub number : c.number ≡ length (even_ends_below quote e b n)
  pub last : c.last ≡ unwrap_or (last_or None (even_ends_below quote e b n)) 0
  pub odd : c.odd ≡ is_odd_at quote b n
