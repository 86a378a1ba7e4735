-- Rows of a range, one after another or many at once (docs/architecture.md, "A block at a time").
use Rattle.std.specs.Prelude.{◌≡◌, ℕ, ◌+◌, ◌-◌, ◌≤◌, true, not, nat_lt, if◌then◌else◌, List, [], ◌++◌, length, take, drop, Option, None, Some, filter}
use Rattle.std.specs.List.{filter_map, list_any, AllByRecursion}
use Rattle.pl_scan.specs.Dialect.{marks_of, comment_of}
use Rattle.pl_cells.specs.BufferValue.{BufferValue, with_more}
use Rattle.pl_rows.specs.declared.plan.RangePlan.{RangePlan}
use Rattle.pl_rows.specs.declared.blocks.BlockRead.{BlockRead}
use Rattle.pl_rows.specs.declared.blocks.BlockRead.TheVariants as block_read
use Rattle.pl_rows.specs.Columns.{column_cells, with_columns}
use Rattle.pl_rows.specs.Plan.{plan_columns, rules_of}
use Rattle.pl_rows.specs.declared.range.RangeEnd.{RangeEnd}
use Rattle.pl_rows.specs.Ranges.{is_judged, judged_rows, has_unjudged, sound_rows, rows_read, range_end, with_range}
use Rattle.pl_rows.specs.Rows.{column_fault, first_fault, first_faulty}
use Rattle.pl_table.specs.Rows.{Row, rows}

-- those of a list that are left below the limit, behind so many
abbrev pub left_below : {X : Type 0} → Option ℕ → ℕ → List X → List X
left_below None n xs = xs
left_below (Some limit) n xs = take (limit - n) xs

-- how many of so many more are below the limit, behind others
abbrev pub within_limit : Option ℕ → ℕ → ℕ → ℕ
within_limit None n count = count
within_limit (Some limit) n count = if nat_lt count (limit - n) then count else (limit - n)

-- the rows of a text that a plan reads, from a number on
abbrev pub rows_left : RangePlan → ℕ → List ℕ → List Row
rows_left plan n left = left_below plan.limit n (rows (marks_of plan.dialect) (comment_of plan.dialect) left)

-- the rows of a range were read up to these bytes that are left, so many of them; none has a fault
pub record HasReadRows (plan : RangePlan) (range : List ℕ) (before now : List BufferValue) (left : List ℕ) (n : ℕ) : Type 0 where
  pub done : List Row
  pub count : length done ≡ n
  pub filled : now ≡ with_columns (rules_of plan) done plan.projection.places.now before
  pub sound : sound_rows (rules_of plan) (plan_columns plan before) (judged_rows plan range)
      ≡ done ++ sound_rows (rules_of plan) (plan_columns plan before) (filter (is_judged plan) (rows_left plan n left))
  pub faulty : first_faulty (rules_of plan) (plan_columns plan before) 0 (judged_rows plan range)
      ≡ first_faulty (rules_of plan) (plan_columns plan before) n (filter (is_judged plan) (rows_left plan n left))
  pub unjudged : has_unjudged plan range ≡ list_any (λ row. not (is_judged plan row)) (rows_left plan n left)
  pub few : n + length (rows (marks_of plan.dialect) (comment_of plan.dialect) left) ≤ length range

-- a range was read to an end, and the buffers gained so many rows
pub record HasReadRange (plan : RangePlan) (range : List ℕ) (before now : List BufferValue) (given : RangeEnd) (n : ℕ) : Type 0 where
  pub end_is : given ≡ range_end plan (plan_columns plan before) range
  pub added : now ≡ with_range plan range before
  pub count : n ≡ length (rows_read plan (plan_columns plan before) range)

-- the buffer has the cells of a column of rows at its end, none of which has a fault
pub record HasAddedColumn (plan : RangePlan) (column : ℕ) (given : List Row) (old new : BufferValue) : Type 0 where
  pub added : new ≡ with_more old (column_cells (rules_of plan) given (column, old.dtype))
  pub sound : AllByRecursion (λ row. column_fault (rules_of plan) row.fields (column, old.dtype) ≡ None) given

-- each buffer has the cells of rows at its end, none of which has a fault
pub record HaveAllColumns (plan : RangePlan) (given : List Row) (old new : List BufferValue) : Type 0 where
  pub added : new ≡ with_columns (rules_of plan) given plan.projection.places.now old
  pub sound : AllByRecursion (λ row. filter_map (column_fault (rules_of plan) row.fields) (plan_columns plan old).read ≡ []) given

-- each buffer has the cells of rows at its end, and none of the rows has a fault
pub record HaveAllRows (plan : RangePlan) (given : List Row) (old new : List BufferValue) : Type 0 where
  pub added : new ≡ with_columns (rules_of plan) given plan.projection.places.now old
  pub whole : AllByRecursion (λ row. first_fault (rules_of plan) (plan_columns plan old) row ≡ None) given

-- rows of the front of a text were read, behind so many others: those below the limit of the ones that these bytes of it have
pub record HasReadBlock (plan : RangePlan) (n : ℕ) (block : List ℕ) (taken size : ℕ) (old new : List BufferValue) : Type 0 where
  pub found : List Row
  pub cut : (more : List ℕ) → rows (marks_of plan.dialect) None (block ++ more) ≡ found ++ rows (marks_of plan.dialect) None (drop size block ++ more)
  pub inside : size ≤ length block
  pub count : taken ≡ within_limit plan.limit n (length found)
  pub judged : AllByRecursion (λ row. is_judged plan row ≡ true) found
  pub read : HaveAllRows plan (take taken found) old new

-- what came of a block; where no rows were read, the buffers are as they were
abbrev pub IsBlockRead : RangePlan → ℕ → List ℕ → List BufferValue → List BufferValue → BlockRead → Type 0
IsBlockRead plan n block old new (block_read.Rows taken size) = HasReadBlock plan n block taken size old new
IsBlockRead plan n block old new block_read.NoRow = new ≡ old
IsBlockRead plan n block old new block_read.Stopped = new ≡ old
