-- Texts that follow one another, each read into columns of its own, and what is left behind them (docs/pieces.md, "Whole pieces").
use Rattle.std.specs.Prelude.{◌≡◌, ℕ, ◌<◌, ◌^◌, List, [], length, drop, Option, IfSome, slice_index_or}
use Rattle.pl_frame.specs.Frame.{ColumnValue}
use Rattle.pl_frame.specs.Schema.{Entry}
use Rattle.pl_rows.specs.declared.columns.RangeColumns.{RangeColumns}
use Rattle.pl_rows.specs.declared.linking.Front.{Front}
use Rattle.pl_rows.specs.declared.plan.RangePlan.{RangePlan}
use Rattle.pl_rows.specs.declared.whole_pieces.PieceFrame.{PieceFrame}
use Rattle.pl_rows.specs.Pieces.{plan_behind}
use Rattle.pl_rows.specs.Ranges.{IsRangeRead}
use Rattle.pl_rows.specs.WholePieces.{IsPieceFrame, IsFrontLinked}

-- what stands at a place, if anything, was read of the text of that place
abbrev pub AreReadAt : RangePlan → List Entry → List (List ℕ) → List (Option PieceFrame) → Type 0
AreReadAt plan schema texts reads = (k : ℕ) (d : Option PieceFrame) → k < length reads → IfSome (slice_index_or reads k d) (IsPieceFrame plan schema (slice_index_or texts k []))

-- all of a text is linked
pub record AllLinked (plan : RangePlan) (schema : List Entry) (text : List ℕ) (columns : List ColumnValue) (front : Front) : Type 0 where
  pub linked : IsFrontLinked plan schema text columns front.rows front.end
  pub end_is : front.end ≡ length text

-- the front of a range is linked, and what is left behind it was read as its last part
pub record IsLeftRead (plan : RangePlan) (schema : List Entry) (range : List ℕ) (columns : List ColumnValue) (front : Front) (left : RangeColumns) : Type 0 where
  pub small : length range < 2 ^ 64
  pub linked : IsFrontLinked plan schema range columns front.rows front.end
  pub read : IsRangeRead (plan_behind plan front.rows plan.last) schema (drop front.end range) left
