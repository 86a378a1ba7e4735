-- The decimal number of a text (docs/types.md, "Decimals").
use Rattle.std.specs.Prelude.{ℕ, ℤ, Bool, true, false, ◌&&◌, ◌==◌, if◌then◌else◌, List, [], ◌∷◌, ◌++◌, drop, Option, None}
use Rattle.pl_frame.specs.Types.{decimal_range}
use Rattle.pl_cells.specs.Integers.{is_digits, number_of, is_negative, without_sign, signed, only_within}
use Rattle.pl_cells.specs.Times.{filled}

-- what stands before the first point, or everything where there is none
abbrev pub before_point : List ℕ → List ℕ
before_point [] = []
before_point (x ∷ xs) = elim (x == 46) [ true ↦ [] | false ↦ x ∷ before_point xs ]

-- what stands behind the first point, or nothing where there is none
abbrev pub behind_point : List ℕ → List ℕ
behind_point [] = []
behind_point (x ∷ xs) = elim (x == 46) [ true ↦ xs | false ↦ behind_point xs ]

-- every byte is a zero
abbrev pub are_zeros : List ℕ → Bool
are_zeros [] = true
are_zeros (x ∷ xs) = x == 48 && are_zeros xs

-- one or more digits, on either side of a point; those past the scale are zeros
abbrev pub is_decimal : ℕ → List ℕ → List ℕ → Bool
is_decimal scale whole fraction = is_digits (whole ++ fraction) && are_zeros (drop scale fraction)

-- the number times ten to the scale
abbrev pub scaled : ℕ → List ℕ → List ℕ → ℕ
scaled scale whole fraction = number_of (whole ++ filled scale fraction)

-- an optional sign and digits with at most one point among them, in the range of the precision
abbrev pub decimal_of : Option ℕ → ℕ → Bool → List ℕ → List ℕ → Option ℤ
decimal_of precision scale negative whole fraction =
    if is_decimal scale whole fraction then only_within (decimal_range precision) (signed negative (scaled scale whole fraction)) else None

-- the number of a text, at the scale
abbrev pub decimal_value : Option ℕ → ℕ → List ℕ → Option ℤ
decimal_value precision scale text =
    decimal_of precision scale (is_negative text) (before_point (without_sign text)) (behind_point (without_sign text))
