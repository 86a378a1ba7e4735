-- Columns whose cells go into arrays while they are read (docs/c.md).
use Rattle.std.specs.Prelude.{◌≡◌, ◌≢◌, ℕ, List, [], ◌∷◌, count_by, is_none, take}
use Rattle.std.specs.List.{AllByRecursion}
use Rattle.pl_cells.specs.InitBuffers.{entry_at}
use Rattle.pl_csv_c.specs.Arrays.{HavePlain}
use Rattle.pl_csv_c.specs.Kinds.{kind_of}
use Rattle.pl_csv_c.specs.declared.growing.Growing.{Growing}
use Rattle.pl_csv_c.specs.declared.kinds.Kind.TheVariants as kind
use Rattle.pl_frame.specs.Frame.{ColumnValue}
use Rattle.pl_frame.specs.Schema.{Entry}
use Rattle.pl_rows.specs.declared.plan.RangePlan.{RangePlan}
use Rattle.pl_rows.specs.declared.range.RangeEnd.{RangeEnd}
use Rattle.pl_rows.specs.Columns.{columns_in}
use Rattle.pl_rows.specs.Ranges.{range_frame, range_end}
use Rattle.pl_rows.specs.WholePieces.{text_frame, IsFrontLinked}

-- all cells of a column stand in its arrays
pub record IsGrown (column : ColumnValue) (growing : Growing) : Type 0 where
  pub name_is : growing.name.items ≡ column.name
  pub type_is : growing.dtype ≡ column.dtype
  pub cells : HavePlain (kind_of column.dtype) column growing.arrays
  pub nulls_are : growing.nulls ≡ count_by is_none column.values

-- those of each column, in their order
abbrev pub AreGrown : List ColumnValue → List Growing → Type 0
AreGrown [] [] = Unit {0}
AreGrown (column ∷ columns) (growing ∷ others) = IsGrown column growing × AreGrown columns others
AreGrown _ _ = ⊥

-- none of these columns has codes
abbrev pub ArePlain : List ColumnValue → Type 0
ArePlain columns = AllByRecursion (λ column. kind_of column.dtype ≢ kind.Codes) columns

-- none at these places of a schema has
abbrev pub ArePlainAt : List Entry → List ℕ → Type 0
ArePlainAt schema places = AllByRecursion (λ place. kind_of (entry_at schema place).1 ≢ kind.Codes) places

-- the rows of a range up to a place stand in arrays
pub record IsFrontGrown (plan : RangePlan) (schema : List Entry) (range : List ℕ) (all : List Growing) (count end : ℕ) : Type 0 where
  pub linked : IsFrontLinked plan schema range (text_frame plan schema (take end range)) count end
  pub grown : AreGrown (text_frame plan schema (take end range)) all

-- what was read of a range stands in arrays
pub record IsRangeGrown (plan : RangePlan) (schema : List Entry) (range : List ℕ) (all : List Growing) (end : RangeEnd) : Type 0 where
  pub grown : AreGrown (range_frame plan schema range) all
  pub end_is : end ≡ range_end plan (columns_in schema plan.projection.places.now) range
