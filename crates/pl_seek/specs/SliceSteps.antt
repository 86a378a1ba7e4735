-- The steps of a slice. Only the proofs of the code need this.
use Rattle.std.specs.Prelude.{ℕ, ◌+◌, nat_lt, if◌then◌else◌, List, Option, None}
use Rattle.pl_frame.specs.Frame.{ColumnValue, height_of}
use Rattle.pl_frame.specs.declared.error.PolarsError.{PolarsError}
use Rattle.pl_options.specs.declared.row_index.RowIndex.{RowIndex}
use Rattle.pl_read.specs.Refusals.{index_past}

-- how many rows there are up to the end of so many behind others, or none where these are none
abbrev pub up_to : (before rows : ℕ) → ℕ
up_to before rows = if nat_lt 0 rows then before + rows else 0

-- the last number of the rows of columns behind others, or else the last code, which does not fit; none where they have no rows
abbrev pub past_behind : Option RowIndex → ℕ → List ColumnValue → Option PolarsError
past_behind index before columns = if nat_lt 0 (height_of columns) then index_past index (before + height_of columns) columns else None
