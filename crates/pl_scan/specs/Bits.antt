-- Single bits of words.
use Rattle.std.specs.Prelude.{ℕ, zero, suc, ◌+◌, ◌/◌, ◌%◌, Bool, true, false, not, ◌==◌, if◌then◌else◌, List, [], ◌∷◌}
use Rattle.std.specs.Int.{bit_at}

-- exactly one of two
abbrev pub xor : Bool → Bool → Bool
xor true b = not b
xor false b = b

-- whether bit i of x is set
unfoldable pub test : ℕ → ℕ → Bool
test x i = bit_at x i == 1

-- whether an odd number of the bits below n is set
unfoldable pub parity : ℕ → ℕ → Bool
parity x zero = false
parity x (suc i) = xor (parity x i) (test x i)

-- whether an odd number of the bits below n is set, where one before the word counts
abbrev pub odd_at : ℕ → Bool → ℕ → Bool
odd_at x odd n = xor (parity x n) odd

-- k + i for each bit i that is set, of the lowest n
unfoldable pub set_bits : ℕ → ℕ → ℕ → List ℕ
set_bits zero k bits = []
set_bits (suc n) k bits = if bits % 2 == 1 then k ∷ set_bits n (k + 1) (bits / 2) else set_bits n (k + 1) (bits / 2)
