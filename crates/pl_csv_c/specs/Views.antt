-- A frame that is kept, and the views of its columns (docs/c.md).
use Rattle.std.specs.Prelude.{◌≡◌, ℕ, List, [], ◌∷◌, length, count_by, is_none, Some}
use Rattle.pl_csv_c.specs.Arrays.{AreArraysOf}
use Rattle.pl_csv_c.specs.declared.kept.KeptColumn.{KeptColumn}
use Rattle.pl_csv_c.specs.declared.kept.KeptFrame.{KeptFrame}
use Rattle.pl_csv_c.specs.declared.views.ColumnView.{ColumnView}
use Rattle.pl_csv_c.specs.declared.views.FrameView.{FrameView}
use Rattle.pl_frame.specs.declared.data_type.DataType.{DataType}
use Rattle.pl_frame.specs.declared.data_type.DataType.TheVariants as dtype
use Rattle.pl_frame.specs.declared.data_type.TimeUnit.TheVariants as unit
use Rattle.pl_frame.specs.Frame.{ColumnValue, height_of}

-- ---- types as numbers

abbrev pub type_number : DataType → ℕ
type_number dtype.Boolean = 0
type_number dtype.Int8 = 1
type_number dtype.Int16 = 2
type_number dtype.Int32 = 3
type_number dtype.Int64 = 4
type_number dtype.Int128 = 5
type_number dtype.UInt8 = 6
type_number dtype.UInt16 = 7
type_number dtype.UInt32 = 8
type_number dtype.UInt64 = 9
type_number dtype.String = 10
type_number dtype.Categorical = 11
type_number (dtype.Enum categories) = 12
type_number dtype.Date = 13
type_number dtype.Time = 14
type_number (dtype.Datetime unit) = 15
type_number (dtype.Decimal precision scale) = 16
type_number dtype.Null = 17

abbrev pub unit_number : DataType → ℕ
unit_number (dtype.Datetime unit.Microseconds) = 1
unit_number (dtype.Datetime unit.Nanoseconds) = 2
unit_number _ = 0

abbrev pub precision_of : DataType → ℕ
precision_of (dtype.Decimal (Some digits) scale) = digits
precision_of _ = 0

abbrev pub scale_of : DataType → ℕ
scale_of (dtype.Decimal precision (Some scale)) = scale
scale_of _ = 0

-- ---- what is kept

-- a column that is kept: its name, its cells, and a view for each category
pub record IsKeptOf (column : ColumnValue) (kept : KeptColumn) : Type 0 where
  pub name_is : kept.name.items ≡ column.name
  pub arrays_are : AreArraysOf column kept.arrays
  pub categories_are : length kept.categories.items ≡ length kept.arrays.categories.items

-- the view of a column that is kept: its type, and the length of each array
pub record IsViewOf (column : ColumnValue) (kept : KeptColumn) (view : ColumnView) : Type 0 where
  pub name_len : view.name.len ≡ length kept.name.items
  pub type_is : view.dtype ≡ type_number column.dtype
  pub unit_is : view.unit ≡ unit_number column.dtype
  pub precision_is : view.precision ≡ precision_of column.dtype
  pub scale_is : view.scale ≡ scale_of column.dtype
  pub present_len : view.present_len ≡ length kept.arrays.present.items
  pub numbers_len : view.numbers_len ≡ length kept.arrays.numbers.items
  pub words_len : view.words_len ≡ length kept.arrays.words.items
  pub ends_len : view.ends_len ≡ length kept.arrays.ends.items
  pub bytes_len : view.bytes_len ≡ length kept.arrays.bytes.items
  pub categories_len : view.categories_len ≡ length kept.categories.items
  pub nulls_are : view.null_count ≡ count_by is_none column.values

-- columns are kept, each with its view, in their order
abbrev pub AreKept : List ColumnValue → List KeptColumn → List ColumnView → Type 0
AreKept [] [] [] = Unit {0}
AreKept (column ∷ columns) (kept ∷ others) (view ∷ views) = IsKeptOf column kept × IsViewOf column kept view × AreKept columns others views
AreKept _ _ _ = ⊥

-- a frame is kept
pub record IsFrameKept (frame : List ColumnValue) (kept : KeptFrame) : Type 0 where
  pub columns_are : AreKept frame kept.columns.items kept.views.items
  pub height_is : kept.height ≡ height_of frame

-- a view has the width and the height of a frame
pub record HasShape (view : FrameView) (frame : List ColumnValue) : Type 0 where
  pub width_is : view.width ≡ length frame
  pub height_is : view.height ≡ height_of frame
