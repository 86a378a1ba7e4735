-- How the digits of a decimal are read, below a limit.
use Rattle.std.specs.Prelude.{ℕ, ◌&&◌, nat_lt, if◌then◌else◌, List, Option, None, Some}
use Rattle.std.specs.Str.{all_ascii_digits}
use Rattle.pl_cells.specs.Decimals.{is_decimal, scaled}
use Rattle.pl_cells.specs.Integers.{number_after}

-- the number of the digits that follow those of n, where they are digits and it is below a limit
abbrev pub read_on : ℕ → ℕ → List ℕ → Option ℕ
read_on limit n digits = if all_ascii_digits digits && nat_lt (number_after n digits) limit then Some (number_after n digits) else None

-- the number times ten to the scale, where it is a decimal and below a limit
abbrev pub scaled_below : ℕ → ℕ → List ℕ → List ℕ → Option ℕ
scaled_below limit scale whole fraction =
    if is_decimal scale whole fraction && nat_lt (scaled scale whole fraction) limit then Some (scaled scale whole fraction) else None
