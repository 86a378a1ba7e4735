-- The rows of the lines that are written of a frame.
use Rattle.std.proofs.Common.{◌≡◌, ℕ, zero, suc, ◌+◌, ◌<◌, ◌≤◌, List, [], ◌∷◌, ◌++◌, length, map, Option, None, Some, refl, sym, ◌∙◌, ap, subst, inl, arith, append-nil, append_assoc}
use Rattle.std.specs.List.{AllByRecursion, flat_map, join_with_byte, range_with_len}
use Rattle.pl_frame.specs.declared.data_type.DataType.{DataType}
use Rattle.pl_frame.specs.Frame.{Scalar, ColumnValue, cell_at}
use Rattle.pl_text.specs.FrameText.{WriteOptions, written_cell, row_line, row_lines}
use Rattle.pl_table.specs.Rows.{rows, ended_row}
use Rattle.pl_cells.specs.NullTest.{NullTest}
use Rattle.pl_round_trip.specs.RoundTrip.{AreApart, IsCellWritable, IsFieldText, IsLine, IsLineTail, line_marks, line_of, with_tail, written_texts}
use Rattle.pl_round_trip.proofs.CellTextLaws.{values-are-fields, nulls-are-fields}
use Rattle.pl_round_trip.proofs.RowTextLaws.{rows-return}

-- a line with a tail is the line of its texts, the last with that tail
pub join-tail : (s : ℕ) (tail : List ℕ) (texts : List (List ℕ)) → 0 < length texts → join_with_byte s texts ++ tail ≡ join_with_byte s (with_tail tail texts)
join-tail s tail [] some = absurd (omega (arith, some))
join-tail s tail (text ∷ []) some = refl
join-tail s tail (text ∷ next ∷ []) some = append_assoc text (s ∷ next) tail
join-tail s tail (text ∷ next ∷ third ∷ texts) some =
    append_assoc text (s ∷ join_with_byte s (next ∷ third ∷ texts)) tail ∙ ap (λ l. text ++ (s ∷ l)) (join-tail s tail (next ∷ third ∷ texts) (omega arith))

pub length-tail : (tail : List ℕ) (texts : List (List ℕ)) → length (with_tail tail texts) ≡ length texts
length-tail tail [] = refl
length-tail tail (text ∷ []) = refl
length-tail tail (text ∷ next ∷ texts) = omega (arith, length-tail tail (next ∷ texts))

-- a cell is a field
cell-field : (o : WriteOptions) (is_null : NullTest) (type : DataType) (cell : Option Scalar) (tail : List ℕ) → IsCellWritable o is_null type cell → AreApart o → IsLineTail tail
    → IsFieldText (line_marks o) (written_cell o type cell ++ tail)
cell-field o is_null type None tail h apart ends = nulls-are-fields o type tail h apart ends
cell-field o is_null type (Some value) tail h apart ends = values-are-fields o is_null type value tail h apart ends

module _ (o : WriteOptions) (is_null : ColumnValue → NullTest) (tail : List ℕ) (apart : AreApart o) (ends : IsLineTail tail) (row : ℕ) where
  fields-are : (columns : List ColumnValue) → AllByRecursion (λ column. IsCellWritable o (is_null column) column.dtype (cell_at column row)) columns
      → AllByRecursion (IsFieldText (line_marks o)) (with_tail tail (written_texts o columns row))
  fields-are [] all = tt
  fields-are (column ∷ []) all = (cell-field o (is_null column) column.dtype (cell_at column row) tail all.0 apart ends, tt)
  fields-are (column ∷ next ∷ columns) all = (
    subst (IsFieldText (line_marks o)) (append-nil (written_cell o column.dtype (cell_at column row))) (cell-field o (is_null column) column.dtype (cell_at column row) [] all.0 apart (inl refl)),
    fields-are (next ∷ columns) all.1,
  )

  pub length-texts : (columns : List ColumnValue) → length (written_texts o columns row) ≡ length columns
  length-texts [] = refl
  length-texts (column ∷ columns) = omega (arith, length-texts columns)

module _ (o : WriteOptions) (is_null : ColumnValue → NullTest) (columns : List ColumnValue) (tail : List ℕ) (apart : AreApart o) (ends : IsLineTail tail) (terminator : o.terminator ≡ tail ++ 10 ∷ []) (some : 0 < length columns) where
  abbrev texts_of : ℕ → List (List ℕ)
  texts_of row = with_tail tail (written_texts o columns row)

  has-texts : (row : ℕ) → 0 < length (written_texts o columns row)
  has-texts row = omega (arith, some, length-texts o is_null tail apart ends row columns)

  line-is : (row : ℕ) → row_line o columns row ≡ line_of (line_marks o) (texts_of row)
  line-is row =
      ap (λ t. join_with_byte o.separator (written_texts o columns row) ++ t) terminator
      ∙ sym (append_assoc (join_with_byte o.separator (written_texts o columns row)) tail (10 ∷ []))
      ∙ ap (λ l. l ++ 10 ∷ []) (join-tail o.separator tail (written_texts o columns row) (has-texts row))

  lines-are : (from count : ℕ) → row_lines o columns from count ≡ flat_map (line_of (line_marks o)) (map texts_of (range_with_len from count))
  lines-are from zero = refl
  lines-are from (suc count) = ap (λ l. l ++ row_lines o columns (from + 1) count) (line-is from) ∙ ap (λ l. line_of (line_marks o) (texts_of from) ++ l) (lines-are (from + 1) count)

  abbrev Writable : ℕ → Type 0
  Writable row = AllByRecursion (λ column. IsCellWritable o (is_null column) column.dtype (cell_at column row)) columns

  are-lines : (from count : ℕ) → ((row : ℕ) → from ≤ row → row < from + count → Writable row) → AllByRecursion (IsLine (line_marks o)) (map texts_of (range_with_len from count))
  are-lines from zero all = tt
  are-lines from (suc count) all = (
    (omega (arith, has-texts from, length-tail tail (written_texts o columns from)), fields-are o is_null tail apart ends from columns (all from (omega arith) (omega arith))),
    are-lines (from + 1) count (λ row low high. all row (omega (arith, low)) (omega (arith, high))),
  )

  ended : (from count : ℕ) → map ended_row (map texts_of (range_with_len from count)) ≡ map (λ row. ended_row (texts_of row)) (range_with_len from count)
  ended from zero = refl
  ended from (suc count) = ap (λ l. ended_row (texts_of from) ∷ l) (ended (from + 1) count)

  rows-are : (from count : ℕ) → ((row : ℕ) → from ≤ row → row < from + count → Writable row) → rows (line_marks o) None (row_lines o columns from count) ≡ map (λ row. ended_row (texts_of row)) (range_with_len from count)
  rows-are from count all =
      ap (rows (line_marks o) None) (lines-are from count)
      ∙ rows-return (line_marks o) (map texts_of (range_with_len from count)) apart.distinct (are-lines from count all)
      ∙ ended from count

pub frame-rows-return : (o : WriteOptions) (is_null : ColumnValue → NullTest) (columns : List ColumnValue) (from count : ℕ) (tail : List ℕ)
    → AreApart o → IsLineTail tail → o.terminator ≡ tail ++ 10 ∷ [] → 0 < length columns
    → ((row : ℕ) → from ≤ row → row < from + count → AllByRecursion (λ column. IsCellWritable o (is_null column) column.dtype (cell_at column row)) columns)
    → rows (line_marks o) None (row_lines o columns from count) ≡ map (λ row. ended_row (with_tail tail (written_texts o columns row))) (range_with_len from count)
frame-rows-return o is_null columns from count tail apart ends terminator some all = rows-are o is_null columns tail apart ends terminator some from count all
