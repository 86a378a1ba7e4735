-- The lines of rows with their numbers are the lines of the rows behind a row index.
use Rattle.std.proofs.Common.{◌≡◌, ℕ, zero, suc, ◌+◌, ◌%◌, ◌^◌, ◌<◌, ◌≤◌, Bool, true, false, ◌==◌, cond, List, [], ◌∷◌, ◌++◌, length, map, slice_get, unwrap_or, None, Some, pos, refl, sym, ◌∙◌, ap, append_assoc, append-nil, arith}
use Rattle.std.specs.Prelude.{decimal}
use Rattle.std.specs.List.{concat, list_any, join_with_byte}
use Rattle.pl_frame.specs.declared.data_type.DataType.TheVariants as dtype
use Rattle.pl_frame.specs.Frame.{Number, ColumnValue, cell_at, height_of}
use Rattle.pl_frame.specs.RowIndex.{row_numbers, row_index_column}
use Rattle.pl_text.specs.FrameText.{WriteOptions, doubled, quoted, written_value, written_cell, row_line, row_lines}
use Rattle.pl_write.specs.Batches.{all_lines}
use Rattle.pl_row_numbers.specs.Numbered.{front_text, next_line, front_at, numbered, stand_behind}
use Rattle.pl_row_numbers.specs.Numbers.{is_mark, IsPlain, CanNumber, AreLinesOf}
use Rattle.pl_row_numbers.specs.declared.fronts.FrontForm.{FrontForm}
use Rattle.pl_row_numbers.specs.declared.numbering.Stand.{Stand}
use Rattle.pl_row_numbers.proofs.LineLaws.{line-is}
use Rattle.pl_row_numbers.proofs.NumberedLaws.{numbered-append, numbered-line}
use Rattle.pl_row_numbers.proofs.PlainLaws.{plain-decimal}
use Rattle.pl_row_numbers.proofs.QuoteLaws.{either_false}

-- how a number is written in front of a line
abbrev pub form_by : WriteOptions → FrontForm
form_by o = record { separator = o.separator; quoted = o.style == 1 }

-- where lines begin
abbrev pub begins : ℕ → Stand
begins n = record { number = n; begun = false; odd = false }

-- a text without quotes has none to be doubled
plain-doubled : (text : List ℕ) → IsPlain text → doubled 34 text ≡ text
plain-doubled [] plain = refl
plain-doubled (x ∷ xs) plain =
    let parts = either_false (is_mark x) (list_any is_mark xs) plain in
    let quote = either_false (x == 34) (x == 10) parts.0 in
    ap (λ t. cond t (34 ∷ 34 ∷ []) (x ∷ []) ++ doubled 34 xs) quote.0 ∙ ap (λ l. x ∷ l) (plain-doubled xs parts.1)

plain-quoted : (q : ℕ) (text : List ℕ) → q ≡ 34 → IsPlain text → quoted q text ≡ 34 ∷ (text ++ 34 ∷ [])
plain-quoted q text is plain = ap (λ q. quoted q text) is ∙ ap (λ l. 34 ∷ (l ++ 34 ∷ [])) (plain-doubled text plain)

-- the front of a line is the cell of its number and a separator
front-is : (o : WriteOptions) (n : ℕ) → CanNumber o → front_text (form_by o) n ≡ written_value o true (decimal n) ++ o.separator ∷ []
front-is o n can = by (o.style == 1) (o.style == 2)
  where
    by : (always some : Bool) → ((cond always (34 ∷ []) [] ++ decimal n) ++ cond always (34 ∷ []) []) ++ o.separator ∷ []
        ≡ cond (cond always false (cond some true true)) (decimal n) (quoted o.quote (decimal n)) ++ o.separator ∷ []
    by true some = ap (λ l. l ++ o.separator ∷ []) (sym (plain-quoted o.quote (decimal n) can.quote (plain-decimal n)))
    by false true = ap (λ l. l ++ o.separator ∷ []) (append-nil (decimal n))
    by false false = ap (λ l. l ++ o.separator ∷ []) (append-nil (decimal n))

-- the cell of a row index in a row
number-get : (offset count row : ℕ) → row < count → slice_get (row_numbers offset count) row ≡ Some (Some (Number (pos (offset + row))))
number-get offset zero row inside = absurd (omega (arith, inside))
number-get offset (suc count) zero inside = let here : offset ≡ offset + zero = omega arith in ap (λ n. Some (Some (Number (pos n)))) here
number-get offset (suc count) (suc row) inside =
    let next : offset + 1 + row ≡ offset + suc row = omega arith in
    number-get (offset + 1) count row (omega (arith, inside)) ∙ ap (λ n. Some (Some (Number (pos n)))) next

number-at : (name : List ℕ) (offset count row : ℕ) → row < count → cell_at (row_index_column name offset count) row ≡ Some (Number (pos (offset + row)))
number-at name offset count row inside = ap (λ o. unwrap_or o None) (number-get offset count row inside)

-- a cell more in front of a line
line-longer : (o : WriteOptions) (first : List ℕ) (columns : List ColumnValue) (row : ℕ) → 0 < length columns
    → join_with_byte o.separator (first ∷ map (λ column. written_cell o column.dtype (cell_at column row)) columns) ++ o.terminator ≡ (first ++ o.separator ∷ []) ++ row_line o columns row
line-longer o first [] row some = absurd (omega (arith, some))
line-longer o first (column ∷ columns) row some =
    let rest = join_with_byte o.separator (map (λ column. written_cell o column.dtype (cell_at column row)) (column ∷ columns)) in
    append_assoc first (o.separator ∷ rest) o.terminator ∙ sym (append_assoc first (o.separator ∷ []) (rest ++ o.terminator))

-- the line of a row behind a row index
line-numbered : (o : WriteOptions) (name : List ℕ) (offset count row : ℕ) (columns : List ColumnValue) → CanNumber o → 0 < length columns → row < count
    → row_line o (row_index_column name offset count ∷ columns) row ≡ front_text (form_by o) (offset + row) ++ row_line o columns row
line-numbered o name offset count row columns can some inside =
    let index = row_index_column name offset count in
    let cell : written_cell o dtype.UInt64 (cell_at index row) ≡ written_value o true (decimal (offset + row)) = ap (written_cell o dtype.UInt64) (number-at name offset count row inside) in
    line-longer o (written_cell o dtype.UInt64 (cell_at index row)) columns row some
    ∙ ap (λ l. (l ++ o.separator ∷ []) ++ row_line o columns row) cell
    ∙ ap (λ l. l ++ row_line o columns row) (sym (front-is o (offset + row) can))

-- the lines of some rows
lines-from : (o : WriteOptions) (name : List ℕ) (offset height from count : ℕ) (columns : List ColumnValue) → CanNumber o → 0 < length columns → from + count ≡ height → offset + height ≤ 2 ^ 64
    → numbered (form_by o) (begins (offset + from)) (row_lines o columns from count) ≡ row_lines o (row_index_column name offset height ∷ columns) from count
lines-from o name offset height from zero columns can some ends fits = refl
lines-from o name offset height from (suc count) columns can some ends fits =
    let s = begins (offset + from) in
    let form = form_by o in
    let line = row_line o columns from in
    let rest = row_lines o columns (from + 1) count in
    let index = row_index_column name offset height in
    let here = numbered-line form s line (line-is o columns from can) in
    numbered-append form s line rest
    ∙ ap (λ l. l ++ numbered form (stand_behind s line) rest) here.0
    ∙ ap (λ t. (front_at form s ++ line) ++ numbered form t rest) here.1
    ∙ ap (λ l. l ++ numbered form (next_line s) rest) (sym (line-numbered o name offset height from columns can some (omega (arith, ends))))
    ∙ ap (λ l. row_line o (index ∷ columns) from ++ l) (next count refl (λ small. lines-from o name offset height (from + 1) count columns can some small fits))
  where
    next : (n : ℕ) → count ≡ n
        → (from + 1 + count ≡ height → numbered (form_by o) (begins (offset + (from + 1))) (row_lines o columns (from + 1) count) ≡ row_lines o (row_index_column name offset height ∷ columns) (from + 1) count)
        → numbered (form_by o) (next_line (begins (offset + from))) (row_lines o columns (from + 1) count) ≡ row_lines o (row_index_column name offset height ∷ columns) (from + 1) count
    next zero is rest = ap (λ k. numbered (form_by o) (next_line (begins (offset + from))) (row_lines o columns (from + 1) k)) is ∙ ap (λ k. row_lines o (row_index_column name offset height ∷ columns) (from + 1) k) (sym is)
    next (suc n) is rest =
        let more : (offset + from + 1) % 2 ^ 64 ≡ offset + (from + 1) = omega (arith, ends, fits, is) in
        ap (λ k. numbered (form_by o) (begins k) (row_lines o columns (from + 1) count)) more
        ∙ rest (omega (arith, ends))

-- the lines of all rows
pub lines-numbered : (o : WriteOptions) (name : List ℕ) (offset : ℕ) (columns : List ColumnValue) (lines : List (List ℕ)) → AreLinesOf o offset columns lines
    → numbered (form_by o) (begins offset) (concat lines) ≡ all_lines o (row_index_column name offset (height_of columns) ∷ columns)
lines-numbered o name offset columns lines are =
    let height = height_of columns in
    let here : offset ≡ offset + 0 = omega arith in
    ap (numbered (form_by o) (begins offset)) are.are
    ∙ ap (λ n. numbered (form_by o) (begins n) (row_lines o columns 0 height)) here
    ∙ lines-from o name offset height 0 height columns are.can are.some (omega arith) are.fits
    ∙ ap (λ n. row_lines o (row_index_column name offset height ∷ columns) 0 n) (sym (numbers-height offset height))
  where
    numbers-height : (offset count : ℕ) → length (row_numbers offset count) ≡ count
    numbers-height offset zero = refl
    numbers-height offset (suc count) = omega (arith, numbers-height (offset + 1) count)
