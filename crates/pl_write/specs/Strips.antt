-- Rows of columns as they are printed next: from the columns themselves, or from copies of these rows.
use Rattle.std.specs.Prelude.{◌≡◌, ℕ, ◌+◌, ◌-◌, ◌≤◌, List, [], ◌∷◌, length, take, drop, map, Option, None, Some}
use Rattle.std.specs.List.{flat_map, join_with_byte, range_with_len}
use Rattle.pl_frame.specs.Frame.{ColumnValue, cell_at}
use Rattle.pl_frame.specs.FrameParts.{with_values}
use Rattle.pl_text.specs.FrameText.{WriteOptions, line, written_cell}
use Rattle.pl_write.specs.CellSources.{IsSourceOf}
use Rattle.pl_write.specs.declared.strips.Strip.{Strip}

-- ---- copies

-- the rows of a column from one on up to another, where they were copied
abbrev pub IsCopy : ℕ → ℕ → ColumnValue → Option ColumnValue → Type 0
IsCopy first end column None = Unit {0}
IsCopy first end column (Some copy) = copy ≡ with_values column (take (end - first) (drop first column.values))

-- one copy, or none, for each column
abbrev pub AreCopies : ℕ → ℕ → List ColumnValue → List (Option ColumnValue) → Type 0
AreCopies first end [] [] = Unit {0}
AreCopies first end [] (copy ∷ copies) = ⊥
AreCopies first end (column ∷ columns) [] = ⊥
AreCopies first end (column ∷ columns) (copy ∷ copies) = IsCopy first end column copy × AreCopies first end columns copies

-- ---- strips

-- a strip of the column, or of its copy, which begins with the first row that was copied
abbrev pub IsStripOf : ℕ → ColumnValue → Option ColumnValue → Strip → Type 0
IsStripOf first column None strip = (strip.column.now ≡ column) × (strip.before ≡ 0)
IsStripOf first column (Some copy) strip = (strip.column.now ≡ copy) × (strip.before ≡ first)

-- a strip has the rows from one on up to another, and its source is that of its column
pub record HasRows (o : WriteOptions) (first end : ℕ) (strip : Strip) : Type 0 where
  pub source : IsSourceOf strip.source o strip.column.now
  pub begins : strip.before ≤ first
  pub ends : end ≤ strip.before + length strip.column.now.values

-- the written cell of a row
abbrev pub cell_in_strip : WriteOptions → Strip → ℕ → List ℕ
cell_in_strip o strip row = written_cell o strip.column.now.dtype (cell_at strip.column.now (row - strip.before))

-- the written cells of a row
abbrev pub cells_in_strips : WriteOptions → List Strip → ℕ → List (List ℕ)
cells_in_strips o strips row = map (λ strip. cell_in_strip o strip row) strips

-- the line of a row without what ends it
abbrev pub joined_strips : WriteOptions → List Strip → ℕ → List ℕ
joined_strips o strips row = join_with_byte o.separator (cells_in_strips o strips row)

-- the line of a row
abbrev pub strip_line : WriteOptions → List Strip → ℕ → List ℕ
strip_line o strips row = line o (cells_in_strips o strips row)

-- the lines of so many rows, from one on
abbrev pub strip_lines : WriteOptions → List Strip → ℕ → ℕ → List ℕ
strip_lines o strips first count = flat_map (strip_line o strips) (range_with_len first count)
