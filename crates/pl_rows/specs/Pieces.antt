-- A piece of a text into buffers, and how what is left is read behind it (docs/pieces.md, "How a read uses pieces").
use Rattle.std.specs.Prelude.{◌≡◌, ℕ, ◌+◌, ◌-◌, ◌<◌, ◌^◌, Bool, true, false, ◌==◌, List, length, Option, None, Some}
use Rattle.std.specs.List.{last_or, AllByRecursion}
use Rattle.std.specs.Option.{option_map_or}
use Rattle.pl_scan.specs.Closing.{ends_open}
use Rattle.pl_scan.specs.Dialect.{marks_of, comment_of}
use Rattle.pl_scan.specs.declared.dialect.Dialect.{Dialect}
use Rattle.pl_scan.specs.Laws.{IsEnded}
use Rattle.pl_cells.specs.BufferValue.{BufferValue}
use Rattle.pl_rows.specs.declared.plan.RangePlan.{RangePlan}
use Rattle.pl_rows.specs.declared.range.RangeEnd.{RangeEnd}
use Rattle.pl_rows.specs.declared.range.RangeEnd.TheVariants as end
use Rattle.pl_rows.specs.Columns.{with_columns}
use Rattle.pl_rows.specs.Plan.{Columns, plan_columns, rules_of}
use Rattle.pl_rows.specs.Rows.{first_fault}
use Rattle.pl_rows.specs.Steps.{is_below}
use Rattle.pl_table.specs.Rows.{rows}

-- the text is empty, or this is its last byte
abbrev pub is_ended : ℕ → List ℕ → Bool
is_ended e b = option_map_or (λ (x : ℕ). x == e) (last_or None b) true

-- a text that ends where an item does: it is empty or its last byte is a line end, and it does not end within a quoted field
pub record EndsItem (dialect : Dialect) (text : List ℕ) : Type 0 where
  pub ended : IsEnded dialect.eol_char text
  pub closed : ends_open (marks_of dialect) (comment_of dialect) text ≡ false

-- whether a range was read behind all of its rows
abbrev pub is_closed : RangeEnd → Bool
is_closed end.Closed = true
is_closed end.Open = false
is_closed (end.Fault row column kind) = false

-- whether a range ended before a row that has a fault
abbrev pub is_fault : RangeEnd → Bool
is_fault end.Closed = false
is_fault end.Open = false
is_fault (end.Fault row column kind) = true

-- a limit of rows, less so many
abbrev pub left_limit : Option ℕ → ℕ → Option ℕ
left_limit None rows = None
left_limit (Some limit) rows = Some (limit - rows)

-- how what is left is read behind so many rows
abbrev pub plan_behind : RangePlan → ℕ → Bool → RangePlan
plan_behind plan rows last = record plan { limit = left_limit plan.limit rows; last = last }

-- where a range ended whose rows stand behind so many others
abbrev pub end_behind : ℕ → RangeEnd → RangeEnd
end_behind rows end.Closed = end.Closed
end_behind rows end.Open = end.Open
end_behind rows (end.Fault row column kind) = end.Fault (rows + row) column kind

-- the number of a row with a fault is a number of 64 bits behind so many others
abbrev pub IsRowFit : ℕ → RangeEnd → Type 0
IsRowFit rows end.Closed = Unit {0}
IsRowFit rows end.Open = Unit {0}
IsRowFit rows (end.Fault row column kind) = rows + row < 2 ^ 64

-- a piece that ends where an item does, none of whose rows has a fault, and which has fewer rows than the limit
pub record IsWholePiece (plan : RangePlan) (columns : Columns) (piece : List ℕ) : Type 0 where
  pub ends : EndsItem plan.dialect piece
  pub sound : AllByRecursion (λ row. first_fault (rules_of plan) columns row ≡ None) (rows (marks_of plan.dialect) (comment_of plan.dialect) piece)
  pub few : is_below plan.limit (length (rows (marks_of plan.dialect) (comment_of plan.dialect) piece)) ≡ true

-- each buffer has the cells of the rows of such a piece at its end, so many
pub record HasReadPiece (plan : RangePlan) (piece : List ℕ) (before now : List BufferValue) (n : ℕ) : Type 0 where
  pub whole : IsWholePiece plan (plan_columns plan before) piece
  pub added : now ≡ with_columns (rules_of plan) (rows (marks_of plan.dialect) (comment_of plan.dialect) piece) plan.projection.places.now before
  pub count : n ≡ length (rows (marks_of plan.dialect) (comment_of plan.dialect) piece)

-- what came of a piece: where it is no such piece, the buffers are as they were
abbrev pub IsPieceRead : RangePlan → List ℕ → List BufferValue → List BufferValue → Option ℕ → Type 0
IsPieceRead plan piece before now None = (IsWholePiece plan (plan_columns plan before) piece → ⊥) × (now ≡ before)
IsPieceRead plan piece before now (Some n) = HasReadPiece plan piece before now n
