-- Where a slice of rows lies in one of several files (docs/files.md, "A slice of several files").
use Rattle.std.specs.Prelude.{◌≡◌, ℕ, ◌+◌, ◌-◌, nat_le, min, max, if◌then◌else◌, List, [], ◌∷◌, ◌++◌, length, take, drop, flat_map}
use Rattle.pl_read.specs.declared.slices.SplitSlicePosition.{SplitSlicePosition}
use Rattle.pl_read.specs.declared.slices.SplitSlicePosition.TheVariants.{Before, Overlapping, After}

-- for a file of so many rows that begins at a row of all files: it ends before the slice begins, or begins where the slice
-- has ended, or the rows from the later beginning to the earlier end are in both
abbrev pub slice_position : (current count start end : ℕ) → SplitSlicePosition
slice_position current count start end =
    if nat_le (current + count) start then Before
    else if nat_le end current then After
    else Overlapping (start - current) (min end (current + count) - max start current)

-- how many rows of the file stand before the slice, and how many in it
abbrev pub rows_at : SplitSlicePosition → ℕ × ℕ
rows_at Before = (0, 0)
rows_at (Overlapping before within) = (before, within)
rows_at After = (0, 0)

-- the same for a file of so many rows
abbrev pub rows_in_file : (current count start end : ℕ) → ℕ × ℕ
rows_in_file current count start end = rows_at (slice_position current count start end)

module _ {T : Type 0} where
  -- so many rows behind so many
  abbrev pub part_of : List T → ℕ × ℕ → List T
  part_of rows part = take part.1 (drop part.0 rows)

  -- the parts of files, the first of which begins at a row of all files, joined
  abbrev pub joined_parts : (current : ℕ) → List (List T) → (start end : ℕ) → List T
  joined_parts current [] start end = []
  joined_parts current (rows ∷ files) start end =
      part_of rows (rows_in_file current (length rows) start end) ++ joined_parts (current + length rows) files start end

  -- the rows of all files
  abbrev pub all_rows : List (List T) → List T
  all_rows files = flat_map (λ rows. rows) files

  -- the rows of a slice
  abbrev pub slice_of : List T → (start end : ℕ) → List T
  slice_of rows start end = take (end - start) (drop start rows)

-- the parts of files, joined, are the slice of the rows of all files
abbrev pub PartsAreTheSlice : Type 0 → Type 0
PartsAreTheSlice T = (files : List (List T)) (start end : ℕ) → joined_parts 0 files start end ≡ slice_of (all_rows files) start end
