-- Digits that are read side by side.
use Rattle.std.specs.Prelude.{◌≡◌, ℕ, ◌+◌, ◌*◌, ◌%◌, ◌≤◌, true, List, [], ◌∷◌, get_or}
use Rattle.std.specs.Char.{is_ascii_digit}
use Rattle.std.specs.List.{AllByRecursion}
use Rattle.pl_cells.specs.Dates.{has_at}

-- the digit of a byte, where it is one
abbrev pub digit_of : ℕ → ℕ
digit_of x = (x + 208) % 256

-- each number is a digit
abbrev pub AreDigits : List ℕ → Type 0
AreDigits lanes = AllByRecursion (λ x. x ≤ 9) lanes

-- the number of digits that follow those of n
abbrev pub digits_number : ℕ → List ℕ → ℕ
digits_number n [] = n
digits_number n (x ∷ xs) = digits_number (n * 10 + x) xs

-- digits and hyphens stand as in `YYYY-MM-DD`
pub record HasDateDigits (text : List ℕ) : Type 0 where
  pub first : is_ascii_digit (get_or text 0 0) ≡ true
  pub second : is_ascii_digit (get_or text 1 0) ≡ true
  pub third : is_ascii_digit (get_or text 2 0) ≡ true
  pub fourth : is_ascii_digit (get_or text 3 0) ≡ true
  pub hyphen : has_at 4 45 text ≡ true
  pub fifth : is_ascii_digit (get_or text 5 0) ≡ true
  pub sixth : is_ascii_digit (get_or text 6 0) ≡ true
  pub later_hyphen : has_at 7 45 text ≡ true
  pub seventh : is_ascii_digit (get_or text 8 0) ≡ true
  pub eighth : is_ascii_digit (get_or text 9 0) ≡ true

-- digits and colons stand as in `HH:MM:SS`
pub record HasClockDigits (text : List ℕ) : Type 0 where
  pub first : is_ascii_digit (get_or text 0 0) ≡ true
  pub second : is_ascii_digit (get_or text 1 0) ≡ true
  pub colon : has_at 2 58 text ≡ true
  pub third : is_ascii_digit (get_or text 3 0) ≡ true
  pub fourth : is_ascii_digit (get_or text 4 0) ≡ true
  pub later_colon : has_at 5 58 text ≡ true
  pub fifth : is_ascii_digit (get_or text 6 0) ≡ true
  pub sixth : is_ascii_digit (get_or text 7 0) ≡ true
