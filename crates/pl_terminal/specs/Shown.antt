-- Texts as a terminal may show them (docs/command-line.md, "At a terminal").
use Rattle.std.specs.Prelude.{◌≡◌, ℕ, zero, suc, ◌/◌, ◌%◌, Bool, false, nat_le, ◌&&◌, if◌then◌else◌, List, [], ◌∷◌, ◌++◌, take, drop, Option, None, Some, codes}
use Rattle.std.specs.Char.{encode_utf8, digit_char}
use Rattle.std.specs.List.{list_any, flat_map}
use Rattle.std.specs.Str.{chars}
use Rattle.bstr.specs.Utf8.{decoded}

-- the characters from one to another may steer a terminal: control characters (C0, delete, C1), and those that change the direction of
-- a text, its lines or its joints
abbrev pub steering : List (ℕ × ℕ)
steering = (0, 31) ∷ (127, 159) ∷ (0x61C, 0x61C) ∷ (0x200B, 0x200F) ∷ (0x2028, 0x202E) ∷ (0x2060, 0x206F) ∷ (0xFEFF, 0xFEFF) ∷ []

-- a character may steer a terminal
abbrev pub steers : ℕ → Bool
steers c = list_any (λ range. nat_le range.0 c && nat_le c range.1) steering

-- no character of a text may steer a terminal
abbrev pub IsHarmless : List ℕ → Type 0
IsHarmless text = list_any steers (chars text) ≡ false

-- a byte as it is written where it is not shown: \x and its two hexadecimal digits
abbrev pub escape : ℕ → List ℕ
escape byte = 92 ∷ 120 ∷ digit_char (byte / 16) ∷ digit_char (byte % 16) ∷ []

-- a character that does not steer is shown as it is; the bytes of any other one, and those that are no UTF-8, are escaped
abbrev pub piece_text : Option ℕ → List ℕ → List ℕ
piece_text None piece = flat_map escape piece
piece_text (Some c) piece = if steers c then flat_map escape piece else encode_utf8 c

-- so many characters at the front of bytes, and three points where there are more
unfoldable pub shown : ℕ → List ℕ → List ℕ
shown zero [] = []
shown zero (b ∷ bs) = codes "..."
shown (suc n) [] = []
shown (suc n) (b ∷ bs) =
    piece_text (decoded (b ∷ bs)).char (take (decoded (b ∷ bs)).size (b ∷ bs)) ++ shown n (drop (decoded (b ∷ bs)).size (b ∷ bs))
