-- Rows that a test wants (docs/files.md, "Reading a frame").
use Rattle.std.specs.Prelude.{◌≡◌, ℕ, Bool, List, map, Option, Result, Ok, Err}
use Rattle.std.specs.List.{range_with_len}
use Rattle.pl_frame.specs.Frame.{Scalar, ColumnValue, cell_at, height_of}
use Rattle.pl_frame.specs.FrameParts.{filtered}
use Rattle.pl_frame.specs.declared.error.PolarsError.{PolarsError}
use Rattle.pl_options.specs.declared.read_options.CsvReadOptions.{CsvReadOptions}
use Rattle.pl_read.specs.Options.{settled_schema}
use Rattle.pl_read.specs.Reading.{IsRead}

-- a row of a frame: the name of each column with the row's cell in it
abbrev pub row_of : List ColumnValue → ℕ → List (List ℕ × Option Scalar)
row_of columns row = map (λ column. (column.name, cell_at column row)) columns

-- for each row of a frame, whether a test wants it
abbrev pub flags_of : (List (List ℕ × Option Scalar) → Bool) → List ColumnValue → List Bool
flags_of wants columns = map (λ row. wants (row_of columns row)) (range_with_len 0 (height_of columns))

-- the rows of a frame that a test wants
abbrev pub rows_wanted : (List (List ℕ × Option Scalar) → Bool) → List ColumnValue → List ColumnValue
rows_wanted wants columns = filtered (flags_of wants columns) columns

-- the frame that an input means under its settled schema, with the rows alone that a test wants
abbrev pub IsTested : (List (List ℕ × Option Scalar) → Bool) → CsvReadOptions → List ℕ → List ColumnValue → Type 0
IsTested wants o input frame = (whole : List ColumnValue) × IsRead o (settled_schema o input) input whole × (frame ≡ rows_wanted wants whole)

-- an answer with the rows alone that a test wants
abbrev pub tested : (List (List ℕ × Option Scalar) → Bool) → Result (List ColumnValue) PolarsError → Result (List ColumnValue) PolarsError
tested wants (Ok frame) = Ok (rows_wanted wants frame)
tested wants (Err fault) = Err fault
