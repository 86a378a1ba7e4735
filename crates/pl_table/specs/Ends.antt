-- Where fields end, byte by byte from the left (docs/grammar.md, "Fields").
use Rattle.std.specs.Prelude.{ℕ, zero, suc, Bool, true, false, not, ◌&&◌, ◌||◌, ◌==◌, if◌then◌else◌, List, [], ◌∷◌, map}
use Rattle.pl_frame.specs.Dialect.{Marks}
use Rattle.pl_scan.specs.Fields.{is_quote}
use Rattle.pl_table.specs.declared.block.Spot.{Spot}
use Rattle.pl_table.specs.declared.block.Spot.TheVariants.{Begin, Plain, Odd, Even}
use Rattle.pl_scan.specs.Bits.{test, odd_at}

abbrev pub is_begin : Spot → Bool
is_begin Begin = true
is_begin Plain = false
is_begin Odd = false
is_begin Even = false

abbrev pub is_odd : Spot → Bool
is_odd Begin = false
is_odd Plain = false
is_odd Odd = true
is_odd Even = false

abbrev pub is_even : Spot → Bool
is_even Begin = false
is_even Plain = false
is_even Odd = false
is_even Even = true

-- the byte is a separator or a line end
abbrev pub is_stop : Marks → ℕ → Bool
is_stop m x = x == m.separator || x == m.line_end

-- the byte ends a field
abbrev pub ends_field : Marks → Spot → ℕ → Bool
ends_field m s x = is_stop m x && not (is_odd s)

-- the spot behind one more byte, which is a stop, or the quote
abbrev pub spot_of : Spot → Bool → Bool → Spot
spot_of Begin stop quote = if stop then Begin else (if quote then Odd else Plain)
spot_of Plain stop quote = if stop then Begin else Plain
spot_of Odd stop quote = if quote then Even else Odd
spot_of Even stop quote = if stop then Begin else (if quote then Odd else Even)

abbrev pub next_spot : Marks → Spot → ℕ → Spot
next_spot m s x = spot_of s (is_stop m x) (is_quote m.quote x)

-- the spot behind bytes
abbrev pub spot_behind : Marks → Spot → List ℕ → Spot
spot_behind m s [] = s
spot_behind m s (x ∷ xs) = spot_behind m (next_spot m s x) xs

-- for each byte, whether it ends a field
abbrev pub end_flags : Marks → Spot → List ℕ → List Bool
end_flags m s [] = []
end_flags m s (x ∷ xs) = ends_field m s x ∷ end_flags m (next_spot m s x) xs

-- for each byte, whether it is a line end
abbrev pub line_flags : Marks → List ℕ → List Bool
line_flags m v = map (λ x. x == m.line_end) v

-- the spot that three tests tell
abbrev pub spot_from : Bool → Bool → Bool → Spot
spot_from odd begin even = if odd then Odd else (if begin then Begin else (if even then Even else Plain))

-- ---- the same by words, which have a bit for each byte

-- a field begins at a place
abbrev pub begin_at : ℕ → ℕ → Bool → Bool → ℕ → Bool
begin_at stops quotes odd begin zero = begin
begin_at stops quotes odd begin (suc i) = test stops i && not (odd_at quotes odd i)

-- a closing quote stands before a place
abbrev pub even_at : ℕ → Bool → Bool → ℕ → Bool
even_at quotes odd even zero = even
even_at quotes odd even (suc i) = test quotes i && odd_at quotes odd i

-- a quote opens what does not begin there, or neither a stop nor a quote follows a closing quote
abbrev pub is_strange : Bool → Bool → Bool → Bool → Bool → Bool
is_strange stop quote odd begin even = (quote && not odd && not (begin || even)) || (even && not (stop || quote))
