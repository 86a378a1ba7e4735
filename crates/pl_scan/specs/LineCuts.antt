-- Where a text is cut into pieces behind line ends, whatever state these stand in (docs/pieces.md, "States").
use Rattle.std.specs.Prelude.{◌≡◌, ◌⊎◌, ◌<◌, ℕ, zero, suc, ◌+◌, Bool, false, ◌&&◌, ◌==◌, nat_le, List, [], ◌∷◌, map, length, take, Option, None, Some, unwrap_or, find}
use Rattle.std.specs.List.{last_or}
use Rattle.pl_scan.specs.Fields.{splits}

-- there is a byte, and it is this one
abbrev pub is_byte : ℕ → Option ℕ → Bool
is_byte e None = false
is_byte e (Some x) = x == e

-- a prefix of at least n bytes whose last byte is a line end
abbrev pub is_line_cut : ℕ → ℕ → List ℕ × List ℕ → Bool
is_line_cut e n cut = nat_le n (length cut.0) && is_byte e (last_or None cut.0)

-- the first piece and what is left behind it: the shortest prefix of at least n bytes whose last byte is a line end, or all
unfoldable pub cut_piece : ℕ → ℕ → List ℕ → List ℕ × List ℕ
cut_piece e n b = unwrap_or (find (is_line_cut e n) (splits b)) (b, [])

-- the places where the pieces end, as long as k lasts
abbrev pub piece_ends_within : ℕ → ℕ → ℕ → List ℕ → List ℕ
piece_ends_within e n zero b = []
piece_ends_within e n (suc k) [] = []
piece_ends_within e n (suc k) (x ∷ xs) =
    let cut = cut_piece e n (x ∷ xs) in
    length cut.0 ∷ map (λ end. length cut.0 + end) (piece_ends_within e n k cut.1)

-- the places where the pieces end: none of the empty list, else the end of the first piece and then those of what is left,
-- each moved by the length of the first piece
unfoldable pub piece_ends : ℕ → ℕ → List ℕ → List ℕ
piece_ends e n b = piece_ends_within e n (length b) b

-- these places rise from one place up to the end of a text: each is greater than the one before it, the last one is the number of
-- bytes, and there is none exactly where the text ends at the first place
abbrev pub RiseTo : ℕ → ℕ → List ℕ → Type 0
RiseTo size from [] = from ≡ size
RiseTo size from (end ∷ ends) = (from < end) × RiseTo size end ends

-- the place is the end of the text, or stands just behind a line end
abbrev pub IsPieceEnd : ℕ → List ℕ → ℕ → Type 0
IsPieceEnd e b end = (end ≡ length b) ⊎ (last_or None (take end b) ≡ Some e)
