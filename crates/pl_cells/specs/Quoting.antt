-- The text of a field (RFC 4180, section 2, rules 5 to 7; docs/grammar.md, "The text of a field").
use Rattle.std.specs.Prelude.{ℕ, ◌-◌, Bool, true, false, ◌&&◌, ◌==◌, nat_eq, nat_le, if◌then◌else◌, List, [], ◌∷◌, length, take, drop, Option, None}
use Rattle.std.specs.List.{ends_with}
use Rattle.pl_scan.specs.Fields.{begins_quoted}

-- without one carriage return at the end
abbrev pub strip : List ℕ → List ℕ
strip f = if ends_with nat_eq f (13 ∷ []) then take (length f - 1) f else f

-- the quote, where a field begins with it
abbrev pub quote_of : Option ℕ → List ℕ → Option ℕ
quote_of quote field = if begins_quoted quote field then quote else None

-- at least two bytes, of which the last is the quote
abbrev pub is_well_quoted : ℕ → List ℕ → Bool
is_well_quoted q g = nat_le 2 (length g) && ends_with nat_eq g (q ∷ [])

-- what stands between the first and the last byte
abbrev pub inside : List ℕ → List ℕ
inside g = take (length g - 2) (drop 1 g)

-- two quotes give one, and a lone quote is dropped, from the left
abbrev pub undouble : ℕ → List ℕ → List ℕ
undouble q [] = []
undouble q (x ∷ []) = if x == q then [] else x ∷ []
undouble q (x ∷ y ∷ rest) =
    elim (x == q) [
      | true ↦ elim (y == q) [ true ↦ q ∷ undouble q rest | false ↦ undouble q (y ∷ rest) ]
      | false ↦ x ∷ undouble q (y ∷ rest)
    ]
