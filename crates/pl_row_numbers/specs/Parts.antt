-- Parts of lines: how quotes and line feeds stand in a text.
use Rattle.std.specs.Prelude.{◌≡◌, ℕ, Bool, true, false, not, ◌&&◌, ◌==◌, List, [], ◌∷◌, ◌++◌}
use Rattle.pl_scan.specs.Bits.{xor}

-- whether an odd number of quotes stands behind a text, given whether it does in front
abbrev pub odd_behind : Bool → List ℕ → Bool
odd_behind odd [] = odd
odd_behind odd (x ∷ xs) = odd_behind (xor (x == 34) odd) xs

-- the byte ends a line, given whether an odd number of quotes stands in front
abbrev pub is_end : Bool → ℕ → Bool
is_end odd x = x == 10 && not odd

-- no line ends in a text
abbrev pub has_no_end : Bool → List ℕ → Bool
has_no_end odd [] = true
has_no_end odd (x ∷ xs) = not (is_end odd x) && has_no_end (xor (x == 34) odd) xs

-- no line ends in a text, and behind it an odd number of quotes stands or not
pub record Goes (odd : Bool) (text : List ℕ) (odd_now : Bool) : Type 0 where
  pub no_end : has_no_end odd text ≡ true
  pub odd_is : odd_behind odd text ≡ odd_now

-- the end of a line: no line ends before its last byte, which is a line feed behind an even number of quotes
pub record IsLast (odd : Bool) (text : List ℕ) : Type 0 where
  pub body : List ℕ
  pub is : text ≡ body ++ 10 ∷ []
  pub goes : Goes odd body false
