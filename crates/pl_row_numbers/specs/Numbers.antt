-- Lines that were printed, which can be told apart by their bytes and numbered (docs/regions.md, "A row index").
use Rattle.std.specs.Prelude.{◌≡◌, ◌≢◌, ℕ, ◌+◌, ◌^◌, ◌<◌, ◌≤◌, Bool, false, ◌||◌, ◌==◌, List, [], ◌∷◌, length}
use Rattle.std.specs.List.{concat, list_any}
use Rattle.pl_frame.specs.Frame.{ColumnValue, height_of}
use Rattle.pl_text.specs.FrameText.{WriteOptions}
use Rattle.pl_write.specs.Batches.{all_lines}

-- a quote or a line feed
abbrev pub is_mark : ℕ → Bool
is_mark x = x == 34 || x == 10

-- the text holds neither quote nor line feed
abbrev pub IsPlain : List ℕ → Type 0
IsPlain text = list_any is_mark text ≡ false

-- a way of writing in which a line ends at its first line feed behind an even number of quotes (RFC 4180, section 2, rules 5 to 7)
pub record CanNumber (o : WriteOptions) : Type 0 where
  pub quote : o.quote ≡ 34
  pub style : o.style ≢ 3
  pub terminator : o.terminator ≡ 10 ∷ []
  pub separator : IsPlain (o.separator ∷ [])
  pub null : IsPlain o.null

-- the lines of all rows of columns, one text behind the other, which can be numbered from one number on
pub record AreLinesOf (o : WriteOptions) (offset : ℕ) (columns : List ColumnValue) (lines : List (List ℕ)) : Type 0 where
  pub can : CanNumber o
  pub some : 0 < length columns
  pub fits : offset + height_of columns ≤ 2 ^ 64
  pub are : concat lines ≡ all_lines o columns
