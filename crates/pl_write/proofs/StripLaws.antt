-- Rows of columns in copies and strips.
use Rattle.std.proofs.Common.{◌≡◌, ℕ, zero, suc, ◌+◌, ◌-◌, ◌<◌, ◌≤◌, List, [], ◌∷◌, ◌++◌, map, length, length-drop, take, drop, get_or, refl, sym, ◌∙◌, ap, arith}
use Rattle.std.specs.Prelude.{Option, None, Some, All, unwrap_or, slice_get}
use Rattle.std.specs.List.{flat_map, range_with_len}
use Rattle.std.proofs.lemmas.List.{get_or-take, get_or-drop, length-take-le, map-append, take_more}
use Rattle.std.proofs.lemmas.List.Elements.{All-weaker}
use Rattle.std.proofs.lemmas.Option.{unwrap_or-slice_get}
use Rattle.pl_frame.specs.Frame.{Scalar, ColumnValue, cell_at}
use Rattle.pl_text.specs.FrameText.{WriteOptions, written_cell, row_line, row_lines}
use Rattle.pl_write.specs.CellSources.{IsSourceOf}
use Rattle.pl_write.specs.Lines.{HaveRows}
use Rattle.pl_write.specs.Strips.{IsCopy, AreCopies, IsStripOf, HasRows, cell_in_strip, cells_in_strips, strip_line, strip_lines}
use Rattle.pl_write.specs.declared.strips.Strip.{Strip}

-- ---- copies

-- one column and its copy more
pub AreCopies-push : (first end : ℕ) (columns : List ColumnValue) (copies : List (Option ColumnValue)) (column : ColumnValue) (copy : Option ColumnValue) → AreCopies first end columns copies
    → IsCopy first end column copy → AreCopies first end (columns ++ column ∷ []) (copies ++ copy ∷ [])
AreCopies-push first end [] [] column copy are is = (is, tt)
AreCopies-push first end [] (c ∷ copies) column copy are is = absurd are
AreCopies-push first end (x ∷ columns) [] column copy are is = absurd are
AreCopies-push first end (x ∷ columns) (c ∷ copies) column copy are is = (are.0, AreCopies-push first end columns copies column copy are.1 is)

-- there are as many
pub AreCopies-length : (first end : ℕ) (columns : List ColumnValue) (copies : List (Option ColumnValue)) → AreCopies first end columns copies → length copies ≡ length columns
AreCopies-length first end [] [] are = refl
AreCopies-length first end [] (c ∷ copies) are = absurd are
AreCopies-length first end (x ∷ columns) [] are = absurd are
AreCopies-length first end (x ∷ columns) (c ∷ copies) are = ap suc (AreCopies-length first end columns copies are.1)

-- the copy at a place is that of the column there
pub AreCopies-at : (first end : ℕ) (columns : List ColumnValue) (copies : List (Option ColumnValue)) (i : ℕ) (column : ColumnValue) (copy : Option ColumnValue) → AreCopies first end columns copies
    → i < length columns → IsCopy first end (get_or columns i column) (get_or copies i copy)
AreCopies-at first end [] [] i column copy are inside = absurd (omega arith)
AreCopies-at first end [] (c ∷ copies) i column copy are inside = absurd are
AreCopies-at first end (x ∷ columns) [] i column copy are inside = absurd are
AreCopies-at first end (x ∷ columns) (c ∷ copies) zero column copy are inside = are.0
AreCopies-at first end (x ∷ columns) (c ∷ copies) (suc i) column copy are inside = AreCopies-at first end columns copies i column copy are.1 (omega arith)

-- every column has the rows, so the one at a place does
pub HaveRows-at : (count : ℕ) (columns : List ColumnValue) (i : ℕ) (column : ColumnValue) → HaveRows count columns → i < length columns → count ≤ length (get_or columns i column).values
HaveRows-at count [] i column have inside = absurd (omega arith)
HaveRows-at count (x ∷ columns) zero column have inside = have.0
HaveRows-at count (x ∷ columns) (suc i) column have inside = HaveRows-at count columns i column have.1 (omega arith)

-- fewer rows
pub HaveRows-fewer : (count more : ℕ) (columns : List ColumnValue) → HaveRows more columns → count ≤ more → HaveRows count columns
HaveRows-fewer count more [] have less = tt
HaveRows-fewer count more (x ∷ columns) have less = (omega (arith, have.0), HaveRows-fewer count more columns have.1 less)

-- ---- strips

-- a row among some of the rows
cell-among : (values : List (Option Scalar)) (first end row : ℕ) → first ≤ row → row < end
    → unwrap_or (slice_get (take (end - first) (drop first values)) (row - first)) None ≡ unwrap_or (slice_get values row) None
cell-among values first end row begins ends =
    let inside : row - first < end - first = omega arith in
    let here : first + (row - first) ≡ row = omega arith in
    unwrap_or-slice_get (take (end - first) (drop first values)) (row - first) None
    ∙ get_or-take (end - first) (drop first values) (row - first) None inside
    ∙ get_or-drop first values (row - first) None
    ∙ ap (λ k. get_or values k None) here
    ∙ sym (unwrap_or-slice_get values row None)

-- so many rows are among them
length-among : (values : List (Option Scalar)) (first end : ℕ) → end ≤ length values → length (take (end - first) (drop first values)) ≡ end - first
length-among values first end inside = length-take-le (end - first) (drop first values) (omega (arith, length-drop first values))

-- a strip of a column has the rows that were copied
pub strip-rows : (o : WriteOptions) (first end : ℕ) (column : ColumnValue) (copy : Option ColumnValue) (strip : Strip) → IsCopy first end column copy → IsStripOf first column copy strip
    → IsSourceOf strip.source o strip.column.now → end ≤ length column.values → HasRows o first end strip
strip-rows o first end column None strip is of source inside =
    let rows : length strip.column.now.values ≡ length column.values = ap (λ (c : ColumnValue). length c.values) of.0 in
    record { source = source; begins = omega (arith, of.1); ends = omega (arith, rows, inside) }
strip-rows o first end column (Some copy) strip is of source inside =
    let rows : length strip.column.now.values ≡ length (take (end - first) (drop first column.values)) = ap (λ (c : ColumnValue). length c.values) (of.0 ∙ is) in
    record { source = source; begins = omega (arith, of.1); ends = omega (arith, rows, length-among column.values first end inside, of.1) }

-- and their cells
pub strip-cell : (o : WriteOptions) (first end : ℕ) (column : ColumnValue) (copy : Option ColumnValue) (strip : Strip) → IsCopy first end column copy → IsStripOf first column copy strip
    → (row : ℕ) → first ≤ row → row < end → cell_in_strip o strip row ≡ written_cell o column.dtype (cell_at column row)
strip-cell o first end column None strip is of row begins ends =
    let here : row - strip.before ≡ row = omega (arith, of.1) in
    ap (λ (c : ColumnValue). written_cell o c.dtype (cell_at c (row - strip.before))) of.0 ∙ ap (λ k. written_cell o column.dtype (cell_at column k)) here
strip-cell o first end column (Some copy) strip is of row begins ends =
    let rows = take (end - first) (drop first column.values) in
    ap (λ (c : ColumnValue). written_cell o c.dtype (cell_at c (row - strip.before))) (of.0 ∙ is)
    ∙ ap (λ k. written_cell o column.dtype (unwrap_or (slice_get rows (row - k)) None)) of.1
    ∙ ap (written_cell o column.dtype) (cell-among column.values first end row begins ends)

-- one strip more
pub cells-more : (o : WriteOptions) (columns : List ColumnValue) (strips : List Strip) (i : ℕ) (column : ColumnValue) (strip : Strip) (row : ℕ) → i < length columns
    → cells_in_strips o strips row ≡ map (λ column. written_cell o column.dtype (cell_at column row)) (take i columns)
    → cell_in_strip o strip row ≡ written_cell o (get_or columns i column).dtype (cell_at (get_or columns i column) row)
    → cells_in_strips o (strips ++ strip ∷ []) row ≡ map (λ column. written_cell o column.dtype (cell_at column row)) (take (i + 1) columns)
cells-more o columns strips i column strip row inside are is =
    let f = λ (c : ColumnValue). written_cell o c.dtype (cell_at c row) in
    map-append (λ s. cell_in_strip o s row) strips (strip ∷ [])
    ∙ ap (λ l. l ++ cell_in_strip o strip row ∷ []) are
    ∙ ap (λ text. map f (take i columns) ++ text ∷ []) is
    ∙ sym (map-append f (take i columns) (get_or columns i column ∷ []))
    ∙ ap (map f) (sym (take_more columns i column inside))

-- some of the rows
pub HasRows-within : (o : WriteOptions) (first end from to : ℕ) (strips : List Strip) → All (HasRows o first end) strips → first ≤ from → to ≤ end → All (HasRows o from to) strips
HasRows-within o first end from to strips have begins ends =
    All-weaker (HasRows o first end) (HasRows o from to)
    (λ strip has. record { source = has.source; begins = omega (arith, has.begins, begins); ends = omega (arith, has.ends, ends) }) strips have

-- ---- lines

-- the same texts of rows
texts-same : (f g : ℕ → List ℕ) (first count : ℕ) → ((row : ℕ) → first ≤ row → row < first + count → f row ≡ g row) → flat_map f (range_with_len first count) ≡ flat_map g (range_with_len first count)
texts-same f g first zero same = refl
texts-same f g first (suc count) same =
    let here : f first ≡ g first = same first (omega arith) (omega arith) in
    let rest = texts-same f g (first + 1) count (λ row begins ends. same row (omega arith) (omega arith)) in
    ap (λ l. l ++ flat_map f (range_with_len (first + 1) count)) here ∙ ap (λ l. g first ++ l) rest

-- the lines of the rows that were copied
pub copied-lines : (o : WriteOptions) (columns : List ColumnValue) (strips shown : List Strip) (from to first end : ℕ) → shown ≡ strips → from ≡ first → to ≡ end
    → ((row : ℕ) → from ≤ row → row < to → strip_line o strips row ≡ row_line o columns row)
    → strip_lines o shown from (to - from) ≡ row_lines o columns first (end - first)
copied-lines o columns strips shown from to first end shows begins ends same =
    ap (λ s. strip_lines o s from (to - from)) shows
    ∙ texts-same (strip_line o strips) (row_line o columns) from (to - from) (λ row after before. same row after (omega arith))
    ∙ ap (λ n. row_lines o columns n (to - n)) begins
    ∙ ap (λ n. row_lines o columns first (n - first)) ends
