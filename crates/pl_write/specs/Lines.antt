-- Lines of rows, put together column by column.
use Rattle.std.specs.Prelude.{◌≡◌, ℕ, ◌+◌, ◌<◌, ◌≤◌, List, [], ◌++◌, length, slice_index_or}
use Rattle.std.specs.List.{AllByRecursion}
use Rattle.pl_frame.specs.Frame.{ColumnValue, cell_at}
use Rattle.pl_text.specs.FrameText.{WriteOptions, written_cell}
use Rattle.pl_write.specs.Writing.{separator_before}

-- what a column adds to the line of a row: a separator, unless it is the first, and the cell
abbrev pub cell_in_line : WriteOptions → ColumnValue → ℕ → ℕ → List ℕ
cell_in_line o column place row = separator_before o.separator place ++ written_cell o column.dtype (cell_at column row)

-- the lines of the rows from one on grew by the texts of their rows
abbrev pub GrewBy : (ℕ → List ℕ) → ℕ → List (List ℕ) → List (List ℕ) → Type 0
GrewBy text first old new = (k : ℕ) → k < length new → slice_index_or new k [] ≡ slice_index_or old k [] ++ text (first + k)

-- the lines are the texts of the rows from one on
abbrev pub AreLines : (ℕ → List ℕ) → ℕ → List (List ℕ) → Type 0
AreLines text first lines = (k : ℕ) → k < length lines → slice_index_or lines k [] ≡ text (first + k)

-- every column has so many rows, or more
abbrev pub HaveRows : ℕ → List ColumnValue → Type 0
HaveRows count columns = AllByRecursion (λ column. count ≤ length column.values) columns
