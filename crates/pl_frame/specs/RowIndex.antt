-- Columns that number the rows (docs/types.md, "Columns and frames").
use Rattle.std.specs.Prelude.{ℕ, pos, List, Option, Some, map}
use Rattle.std.specs.List.{range_with_len}
use Rattle.pl_frame.specs.declared.data_type.DataType.TheVariants as dtype
use Rattle.pl_frame.specs.Frame.{Scalar, Number, ColumnValue}

-- this many numbers, from one on
abbrev pub row_numbers : ℕ → ℕ → List (Option Scalar)
row_numbers offset count = map (λ n. Some (Number (pos n))) (range_with_len offset count)

-- the column of this name that numbers this many rows, from one number on
abbrev pub row_index_column : List ℕ → ℕ → ℕ → ColumnValue
row_index_column name offset count = record { name = name; dtype = dtype.UInt64; values = row_numbers offset count }
