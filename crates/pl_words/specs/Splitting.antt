-- Texts cut at a byte.
use Rattle.std.specs.Prelude.{ℕ, Bool, ◌==◌, if◌then◌else◌, List, Option, None, Some}
use Rattle.std.specs.List.{list_any, slice_split, before_first, after_first}

-- the byte is this one
abbrev pub is_byte : ℕ → ℕ → Bool
is_byte mark x = x == mark

-- what stands before and behind the first such byte, where there is one
abbrev pub cut_at : ℕ → List ℕ → Option (List ℕ × List ℕ)
cut_at mark text = if list_any (is_byte mark) text then Some (before_first (is_byte mark) text, after_first (is_byte mark) text) else None

-- the parts between such bytes; without one the whole text is the only part
abbrev pub parts_at : ℕ → List ℕ → List (List ℕ)
parts_at mark text = slice_split (is_byte mark) text
