-- A text with a number in front of each line that begins in it.
use Rattle.std.specs.Prelude.{◌≡◌, ℕ, ◌+◌, ◌/◌, ◌%◌, ◌^◌, ◌<◌, ◌≤◌, Bool, true, false, ◌==◌, if◌then◌else◌, List, [], ◌∷◌, ◌++◌, length, take, decimal}
use Rattle.pl_scan.specs.Bits.{xor}
use Rattle.pl_row_numbers.specs.Parts.{is_end}
use Rattle.pl_row_numbers.specs.declared.fronts.Front.{Front}
use Rattle.pl_row_numbers.specs.declared.fronts.FrontForm.{FrontForm}
use Rattle.pl_row_numbers.specs.declared.numbering.Stand.{Stand}

-- what stands in front of a line of this number
abbrev pub front_text : FrontForm → ℕ → List ℕ
front_text form n = (if form.quoted then 34 ∷ [] else []) ++ decimal n ++ (if form.quoted then 34 ∷ [] else []) ++ form.separator ∷ []

-- the first bytes are the front of a line whose number differs from this one in the last digit alone
pub record IsFront (front : Front) : Type 0 where
  pub size : length front.text ≡ 32
  pub within : front.len ≤ 23
  pub fits : front.number < 2 ^ 64
  pub near : ℕ
  pub small : near < 2 ^ 64
  pub tens : near / 10 ≡ front.number / 10
  pub is : take front.len front.text ≡ front_text front.form near

-- where a text stands behind a line; of numbers of 64 bits the first follows the last
abbrev pub next_line : Stand → Stand
next_line s = record { number = (s.number + 1) % 2 ^ 64; begun = false; odd = false }

-- where a text stands in a line
abbrev pub in_line : Stand → Bool → Stand
in_line s odd = record { number = s.number; begun = true; odd = odd }

-- where a text stands behind one byte more
abbrev pub next_stand : Stand → ℕ → Stand
next_stand s x = if is_end s.odd x then next_line s else in_line s (xor (x == 34) s.odd)

-- where a text stands behind some bytes more
abbrev pub stand_behind : Stand → List ℕ → Stand
stand_behind s [] = s
stand_behind s (x ∷ xs) = stand_behind (next_stand s x) xs

-- the front of the line, unless it has begun
abbrev pub front_at : FrontForm → Stand → List ℕ
front_at form s = if s.begun then [] else front_text form s.number

-- the text with the front of each line that begins in it
abbrev pub numbered : FrontForm → Stand → List ℕ → List ℕ
numbered form s [] = []
numbered form s (x ∷ xs) = front_at form s ++ x ∷ numbered form (next_stand s x) xs

-- the text, and behind each end of a line the front of the next one
abbrev pub followed : FrontForm → Stand → List ℕ → List ℕ
followed form s [] = []
followed form s (x ∷ xs) = x ∷ front_at form (next_stand s x) ++ followed form (next_stand s x) xs

-- in the line whose front this is
abbrev pub inside : Front → Bool → Stand
inside front odd = record { number = front.number; begun = true; odd = odd }

-- the front of the line that begins or has begun where a text stands
pub record Stands (form : FrontForm) (s : Stand) (front : Front) (odd : Bool) : Type 0 where
  pub front_is : IsFront front
  pub form_is : front.form ≡ form
  pub number_is : front.number ≡ s.number
  pub odd_is : odd ≡ s.odd
