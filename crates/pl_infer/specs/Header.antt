-- The names of columns, where no schema is given (docs/types.md, "Names of columns").
use Rattle.std.specs.Prelude.{ℕ, Bool, if◌then◌else◌, zero, suc, List, [], ◌∷◌, ◌++◌, codes, decimal, length, map, count_by, Option, None, Some}
use Rattle.std.specs.List.{range_with_len}
use Rattle.std.specs.Str.{bytes_eq}
use Rattle.std.specs.Str.Lossy.{utf8_lossy}
use Rattle.pl_frame.specs.Dialect.{Marks}
use Rattle.pl_cells.specs.Quoting.{strip, quote_of, is_well_quoted, inside, undouble}
use Rattle.pl_scan.specs.Fields.{fields}

-- what stands between the quotes of a well quoted field, undoubled, or else the field as it stands; given the quote that the
-- field begins with
abbrev pub unquoted : Option ℕ → List ℕ → List ℕ
unquoted None text = text
unquoted (Some q) text = if is_well_quoted q text then undouble q (inside text) else text

-- the name that a field of a header writes: it loses one carriage return, and what is not UTF-8 in it is replaced
abbrev pub field_name : Option ℕ → List ℕ → List ℕ
field_name quote field = utf8_lossy (unquoted (quote_of quote field) (strip field))

-- a name behind so many that are the same: the first stands as it is, and the others are numbered from 0
abbrev pub numbered_name : List ℕ → ℕ → List ℕ
numbered_name name zero = name
numbered_name name (suc n) = name ++ (codes "_duplicated_" ++ decimal n)

-- names that are told apart, given those before them
abbrev pub apart_behind : List (List ℕ) → List (List ℕ) → List (List ℕ)
apart_behind before [] = []
apart_behind before (name ∷ names) = numbered_name name (count_by (bytes_eq name) before) ∷ apart_behind (before ++ name ∷ []) names

-- column_1, column_2 and so on
abbrev pub counted_names : ℕ → List (List ℕ)
counted_names count = map (λ n. codes "column_" ++ decimal n) (range_with_len 1 count)

-- the names of the columns of a text whose first record is the header, or else is like all others
abbrev pub column_names : Bool → Marks → List ℕ → List (List ℕ)
column_names has_header m b =
    if has_header then apart_behind [] (map (field_name m.quote) (fields m b)) else counted_names (length (fields m b))
