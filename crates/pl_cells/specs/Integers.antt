-- The number that a text writes in decimal digits (docs/types.md, "Whole numbers").
use Rattle.std.specs.Prelude.{ℕ, ℤ, pos, neg_ℤ, ◌+◌, ◌-◌, ◌*◌, Bool, true, false, ◌&&◌, ◌||◌, ◌==◌, nat_lt, if◌then◌else◌, List, [], ◌∷◌, Option, None, Some}
use Rattle.std.specs.Str.{all_ascii_digits}
use Rattle.pl_frame.specs.Types.{Range, signed_range, is_within}

-- one or more ASCII digits
abbrev pub is_digits : List ℕ → Bool
is_digits [] = false
is_digits (x ∷ xs) = all_ascii_digits (x ∷ xs)

-- the number of digits that follow those of n
abbrev pub number_after : ℕ → List ℕ → ℕ
number_after n [] = n
number_after n (x ∷ xs) = number_after (n * 10 + (x - 48)) xs

-- the number of digits
abbrev pub number_of : List ℕ → ℕ
number_of digits = number_after 0 digits

-- the number of a text of digits
abbrev pub digits_value : List ℕ → Option ℕ
digits_value text = if is_digits text then Some (number_of text) else None

-- the number of a text of digits, where it is below a limit
abbrev pub number_below : ℕ → List ℕ → Option ℕ
number_below limit text = if is_digits text && nat_lt (number_of text) limit then Some (number_of text) else None

-- the text begins with a minus
abbrev pub is_negative : List ℕ → Bool
is_negative [] = false
is_negative (x ∷ xs) = x == 45

-- without one sign in front
abbrev pub without_sign : List ℕ → List ℕ
without_sign [] = []
without_sign (x ∷ xs) = if x == 43 || x == 45 then xs else x ∷ xs

-- without one minus in front
abbrev pub without_minus : List ℕ → List ℕ
without_minus [] = []
without_minus (x ∷ xs) = if x == 45 then xs else x ∷ xs

-- the number with its sign
abbrev pub signed : Bool → ℕ → ℤ
signed negative n = if negative then neg_ℤ (pos n) else pos n

-- the number, where it lies in the range
abbrev pub only_within : Range → ℤ → Option ℤ
only_within range n = if is_within range n then Some n else None

-- the whole number of a text in a range: an optional sign and digits, leading zeros allowed
abbrev pub signed_value : Range → List ℕ → Option ℤ
signed_value range text = elim (digits_value (without_sign text)) [
  | None ↦ None
  | Some n ↦ only_within range (signed (is_negative text) n)
]

-- the same where no minus is allowed
abbrev pub unsigned_value : Range → List ℕ → Option ℤ
unsigned_value range text = if is_negative text then None else signed_value range text

-- the whole number of a text in 64 bits
abbrev pub int64_value : List ℕ → Option ℤ
int64_value text = signed_value (signed_range 64) text

-- whole numbers as they are told from other texts: an optional minus and digits, of any length
abbrev pub is_integer_text : List ℕ → Bool
is_integer_text text = is_digits (without_minus text)

-- without the spaces and tabs in front
abbrev pub without_blanks : List ℕ → List ℕ
without_blanks [] = []
without_blanks (x ∷ xs) = elim (x == 32 || x == 9) [ true ↦ without_blanks xs | false ↦ x ∷ xs ]
