-- How a table keeps its records: where its fields start, the place behind the last one among them, and the number of fields
-- before each record, of the one behind the last one too.
use Rattle.std.specs.Prelude.{ℕ, get_or, ◌+◌, ◌-◌, ◌<◌, ◌≤◌, List, map, length}
use Rattle.std.specs.List.{range_with_len}
use Rattle.pl_table.specs.Tables.{Cut}

-- field i, whose end is one byte long
abbrev pub cut_at : List ℕ → ℕ → Cut
cut_at starts i = record { start = get_or starts i 0; end = get_or starts (i + 1) 0 - 1 }

-- the fields of record j
abbrev pub row_cuts : List ℕ → List ℕ → ℕ → List Cut
row_cuts starts rows j = map (cut_at starts) (range_with_len (get_or rows j 0) (get_or rows (j + 1) 0 - get_or rows j 0))

-- the first n records
abbrev pub table_of : List ℕ → List ℕ → ℕ → List (List Cut)
table_of starts rows n = map (row_cuts starts rows) (range_with_len 0 n)

-- the first n records have their fields
pub record IsIndex (starts rows : List ℕ) (n : ℕ) : Type 0 where
  pub rows_fit : 0 < n → n < length rows
  pub ordered : (j : ℕ) → j < n → get_or rows j 0 ≤ get_or rows (j + 1) 0
  pub starts_fit : (j : ℕ) → j < n → get_or rows (j + 1) 0 < length starts
  pub ended : (j i : ℕ) → j < n → i < get_or rows (j + 1) 0 → 0 < get_or starts (i + 1) 0
