-- The rows of a frame that fits are read as its columns.
use Rattle.std.proofs.Common.{◌≡◌, ℕ, zero, suc, ◌+◌, ◌<◌, ◌≤◌, Bool, true, false, not, ◌&&◌, if◌then◌else◌, nat_lt, List, [], ◌∷◌, ◌++◌, length, map, refl, sym, ◌∙◌, ap, subst, inl, arith, append-nil}
use Rattle.std.specs.Prelude.{Option, None, Some, Ok, unwrap_or, slice_get}
use Rattle.std.specs.List.{AllByRecursion, range_with_len, filter_map, cons_option}
use Rattle.std.specs.Option.{option_map}
use Rattle.std.proofs.lemmas.Bool.Decides.{nat_tests}
use Rattle.std.proofs.lemmas.List.{length-map}
use Rattle.std.proofs.lemmas.Option.{slice_get-map}
use Rattle.pl_frame.specs.declared.error.FaultKind.{FaultKind}
use Rattle.pl_frame.specs.declared.error.FaultKind.TheVariants as fault
use Rattle.pl_frame.specs.Frame.{Scalar, ColumnValue, IsFrame, cell_at, height_of}
use Rattle.pl_frame.specs.FrameParts.{schema_of}
use Rattle.pl_frame.specs.Schema.{Entry}
use Rattle.pl_text.specs.FrameText.{WriteOptions, written_null, written_cell}
use Rattle.pl_cells.specs.declared.null_values.NullValuesCompiled.{NullValuesCompiled}
use Rattle.pl_cells.specs.Cells.{Cell, fault_of, value_of}
use Rattle.pl_cells.specs.Cells as cells
use Rattle.pl_cells.specs.InitBuffers.{entry_at}
use Rattle.pl_cells.specs.NullValues.{means_null}
use Rattle.pl_rows.specs.Cells.{RowRules, cell}
use Rattle.pl_rows.specs.Columns.{column_cells, read_column, entries_in, columns_in, frame_of_rows}
use Rattle.pl_rows.specs.Plan.{Columns}
use Rattle.pl_cells.specs.Columns.{field_in}
use Rattle.pl_rows.specs.Rows.{column_fault, is_forgiven, excess_fault, passes_excess, first_or, first_fault, first_faulty}
use Rattle.pl_table.specs.Rows.{Row, ended_row}
use Rattle.pl_round_trip.specs.RoundTrip.{IsLineTail, with_tail, written_texts}
use Rattle.pl_round_trip.specs.Fits.{FitsColumn, Fits}
use Rattle.pl_round_trip.specs.Returning.{nulls_of, row_fields}
use Rattle.pl_round_trip.proofs.FitCellLaws.{cell-returns}
use Rattle.pl_round_trip.proofs.FitRowLaws.{fits-at}
use Rattle.pl_read.proofs.SelectionLaws.{frame-places}

-- ---- lists

pub all-at : {X : Type 0} (P : X → Type 0) (xs : List X) (k : ℕ) (x : X) → AllByRecursion P xs → slice_get xs k ≡ Some x → P x
all-at P [] k x all is = cc
all-at P (y ∷ ys) zero x all is = let same : y ≡ x = cc in subst P same all.0
all-at P (y ∷ ys) (suc k) x all is = all-at P ys k x all.1 is

some-at : {X : Type 0} (xs : List X) (k : ℕ) (d : X) → k < length xs → slice_get xs k ≡ Some (unwrap_or (slice_get xs k) d)
some-at [] k d below = absurd (omega (arith, below))
some-at (x ∷ xs) zero d below = refl
some-at (x ∷ xs) (suc k) d below = some-at xs k d (omega (arith, below))

pub there : {X : Type 0} (xs : List X) (k : ℕ) → k < length xs → (x : X) × (slice_get xs k ≡ Some x)
there [] k below = absurd (omega (arith, below))
there (x ∷ xs) zero below = (x, refl)
there (x ∷ xs) (suc k) below = there xs k (omega (arith, below))

-- what is made of each place is the list
map-places : {X : Type 0} (h : ℕ → X) (xs : List X) (a : ℕ) → ((k : ℕ) → k < length xs → slice_get xs k ≡ Some (h (a + k))) → map h (range_with_len a (length xs)) ≡ xs
map-places h [] a each = refl
map-places h (x ∷ xs) a each =
    let first : ◌≡◌ {A = Option _} (Some x) (Some (h (a + 0))) = each 0 (omega arith) in
    let same : a + 0 ≡ a = omega arith in
    let here : h a ≡ x = ap h (sym same) ∙ taken x (h (a + 0)) first in
    let later = map-places h xs (a + 1) (λ k below. let next : a + suc k ≡ a + 1 + k = omega arith in each (suc k) (omega (arith, below)) ∙ ap (λ j. Some (h j)) next) in
    ap (λ y. y ∷ map h (range_with_len (a + 1) (length xs))) here ∙ ap (λ l. x ∷ l) later
  where
    taken : {Y : Type 0} (x y : Y) → ◌≡◌ {A = Option Y} (Some x) (Some y) → y ≡ x
    taken x y is = cc

map-map : {X Y Z : Type 0} (f : Y → Z) (g : X → Y) (xs : List X) → map f (map g xs) ≡ map (λ x. f (g x)) xs
map-map f g [] = refl
map-map f g (x ∷ xs) = ap (λ l. f (g x) ∷ l) (map-map f g xs)

-- ---- the fields of a row

fields-at : (tail : List ℕ) (texts : List (List ℕ)) (k : ℕ) → IsLineTail tail → k < length texts → (end : List ℕ) × IsLineTail end × (field_in (with_tail tail texts) k ≡ field_in texts k ++ end)
fields-at tail [] k ends below = absurd (omega (arith, below))
fields-at tail (text ∷ []) zero ends below = (tail, ends, refl)
fields-at tail (text ∷ []) (suc k) ends below = absurd (omega (arith, below))
fields-at tail (text ∷ next ∷ texts) zero ends below = ([], inl refl, sym (append-nil text))
fields-at tail (text ∷ next ∷ texts) (suc k) ends below = fields-at tail (next ∷ texts) k ends (omega (arith, below))

count-tail : (tail : List ℕ) (texts : List (List ℕ)) → length (with_tail tail texts) ≡ length texts
count-tail tail [] = refl
count-tail tail (text ∷ []) = refl
count-tail tail (text ∷ next ∷ texts) = omega (arith, count-tail tail (next ∷ texts))

count-fields : (write : WriteOptions) (columns : List ColumnValue) (tail : List ℕ) (row : ℕ) → length (row_fields write columns tail row) ≡ length columns
count-fields write columns tail row = count-tail tail (written_texts write columns row) ∙ length-map columns (λ column. written_cell write column.dtype (cell_at column row))

text-at : (write : WriteOptions) (columns : List ColumnValue) (row k : ℕ) (column : ColumnValue) → slice_get columns k ≡ Some column
    → field_in (written_texts write columns row) k ≡ written_cell write column.dtype (cell_at column row)
text-at write columns row k column at =
    let put : ColumnValue → List ℕ = λ c. written_cell write c.dtype (cell_at c row) in
    ap (λ (t : Option (List ℕ)). unwrap_or t []) (slice_get-map put columns k ∙ ap (option_map put) at)

pub entry-is : (columns : List ColumnValue) (k : ℕ) (column : ColumnValue) → slice_get columns k ≡ Some column → entry_at (schema_of columns) k ≡ (column.name, column.dtype)
entry-is columns k column at =
    let put : ColumnValue → Entry = λ c. (c.name, c.dtype) in
    ap (λ (e : Option Entry). unwrap_or e (entry_at [] 0)) (slice_get-map put columns k ∙ ap (option_map put) at)

-- ---- faults that are not there

never : {X : Type 0} (passed more forgiven : Bool) (fault : Option X) → more ≡ false → (if not passed && (more && not forgiven) then fault else None) ≡ None
never true more forgiven fault few = refl
never false false forgiven fault few = refl
never false true forgiven fault few = cc

nothing-found : {X Y : Type 0} (h : X → Option Y) (g : ℕ → X) (a n : ℕ) → ((k : ℕ) → k < a + n → h (g k) ≡ None) → filter_map h (map g (range_with_len a n)) ≡ []
nothing-found h g a zero none = refl
nothing-found h g a (suc n) none =
    ap (λ found. cons_option found (filter_map h (map g (range_with_len (a + 1) n)))) (none a (omega arith)) ∙ nothing-found h g (a + 1) n (λ k below. none k (omega (arith, below)))

next : (number : ℕ) (others : Option (ℕ × (ℕ × FaultKind))) (found : Option (ℕ × FaultKind)) → found ≡ None
    → ◌≡◌ {A = Option (ℕ × (ℕ × FaultKind))} (elim found [ Some f ↦ Some (number, f) | None ↦ others ]) others
next number others found none = rw none refl

-- ---- reading them

-- rules by which the cells of a way of writing are read
pub record ReadsWritten (rules : RowRules) (write : WriteOptions) : Type 0 where
  pub quote : rules.quote_char ≡ Some write.quote
  pub nulls : rules.nulls ≡ nulls_of (written_null write)
  pub missing : rules.reading.missing_is_null ≡ true

module _ (rules : RowRules) (write : WriteOptions) (columns : List ColumnValue) (tail : List ℕ) (reads : ReadsWritten rules write) (frame : IsFrame columns) (fits : Fits write columns) (ends : IsLineTail tail) where
  abbrev rows_written : ℕ → Row
  rows_written row = ended_row (row_fields write columns tail row)

  cell-is : (k row : ℕ) (column : ColumnValue) → slice_get columns k ≡ Some column → k < length columns → row < height_of columns
      → cell rules k column.dtype (field_in (row_fields write columns tail row) k) ≡ Ok (cell_at column row)
  cell-is k row column at below short =
      let own = all-at (FitsColumn write) columns k column fits.each at in
      let height = all-at (λ (c : ColumnValue). length c.values ≡ height_of columns) columns k column frame.one_height at in
      let long = length-map columns (λ (c : ColumnValue). written_cell write c.dtype (cell_at c row)) in
      let field = fields-at tail (written_texts write columns row) k ends (omega (arith, below, long)) in
      ap (cell rules k column.dtype) (field.2 ∙ ap (λ t. t ++ field.0) (text-at write columns row k column at))
      ∙ ap (λ (n : Option NullValuesCompiled). cells.cell rules.reading (means_null n k) rules.quote_char column.dtype (written_cell write column.dtype (cell_at column row) ++ field.0)) reads.nulls
      ∙ ap (λ (q : Option ℕ). cells.cell rules.reading (means_null (nulls_of (written_null write)) k) q column.dtype (written_cell write column.dtype (cell_at column row) ++ field.0)) reads.quote
      ∙ cell-returns write rules.reading k column.dtype (cell_at column row) field.0 fits.options own.readable
      (fits-at write column.dtype column.values row own.cells (omega (arith, short, height))) reads.missing field.1

  -- ---- no fault

  no-cell_fault : (k row : ℕ) → k < length columns → row < height_of columns
      → column_fault rules (row_fields write columns tail row) (k, (entry_at (schema_of columns) k).1) ≡ None
  no-cell_fault k row below short =
      let found = there columns k below in
      ap (λ (e : Entry). column_fault rules (row_fields write columns tail row) (k, e.1)) (entry-is columns k found.0 found.1)
      ∙ ap (λ (c : Cell). elim (fault_of c) as (λ _. Option (ℕ × FaultKind)) [ None ↦ None | Some kind ↦ Some (k, kind) ]) (cell-is k row found.0 found.1 below short)

  no-excess : (passed : Bool) (row : ℕ) → excess_fault passed (length (schema_of columns)) (rows_written row) ≡ None
  no-excess passed row =
      let many = count-fields write columns tail row in
      let wide = length-map {B = Entry} columns (λ (c : ColumnValue). (c.name, c.dtype)) in
      let few : nat_lt (length (schema_of columns)) (length (row_fields write columns tail row)) ≡ false = grind (arith, nat_tests, many, wide) in
      never passed (nat_lt (length (schema_of columns)) (length (row_fields write columns tail row))) (is_forgiven (length (schema_of columns)) (rows_written row))
      (Some (length (schema_of columns), fault.Fields)) few

  row-sound : (row : ℕ) → row < height_of columns → first_fault rules (columns_in (schema_of columns) (range_with_len 0 (length (schema_of columns)))) (rows_written row) ≡ None
  row-sound row short =
      let schema : List Entry = schema_of columns in
      let all : Columns = columns_in schema (range_with_len 0 (length schema)) in
      let wide = length-map {B = Entry} columns (λ (c : ColumnValue). (c.name, c.dtype)) in
      let none : filter_map (column_fault rules (row_fields write columns tail row)) all.read ≡ [] =
      nothing-found (column_fault rules (row_fields write columns tail row)) (λ place. (place, (entry_at schema place).1)) 0 (length schema)
      (λ k below. no-cell_fault k row (omega (arith, below, wide)) short) in
      ap (first_or (excess_fault (passes_excess rules all) (length schema) (rows_written row))) none ∙ no-excess (passes_excess rules all) row

  -- no row has one
  pub rows-sound : (number a n : ℕ) → a + n ≤ height_of columns
      → first_faulty rules (columns_in (schema_of columns) (range_with_len 0 (length (schema_of columns)))) number (map (λ row. ended_row (row_fields write columns tail row)) (range_with_len a n)) ≡ None
  rows-sound number a zero fit = refl
  rows-sound number a (suc n) fit =
      let all : Columns = columns_in (schema_of columns) (range_with_len 0 (length (schema_of columns))) in
      next number (first_faulty rules all (number + 1) (map rows_written (range_with_len (a + 1) n))) (first_fault rules all (rows_written a)) (row-sound a (omega (arith, fit)))
      ∙ rows-sound (number + 1) (a + 1) n (omega (arith, fit))

  -- ---- the cells

  own-cells : (k : ℕ) (column : ColumnValue) → slice_get columns k ≡ Some column → k < length columns
      → column_cells rules (map (λ row. ended_row (row_fields write columns tail row)) (range_with_len 0 (height_of columns))) (k, column.dtype) ≡ column.values
  own-cells k column at below =
      let height = all-at (λ (c : ColumnValue). length c.values ≡ height_of columns) columns k column frame.one_height at in
      let read : ℕ → Option Scalar = λ row. value_of (cell rules k column.dtype (field_in (row_fields write columns tail row) k)) in
      map-map (λ (row : Row). value_of (cell rules k column.dtype (field_in row.fields k))) rows_written (range_with_len 0 (height_of columns))
      ∙ ap (λ n. map read (range_with_len 0 n)) (sym height)
      ∙ map-places read column.values 0
      (λ row short. let front : 0 + row ≡ row = omega arith in
      some-at column.values row None short ∙ ap (λ (v : Option Scalar). Some v) (sym (ap value_of (cell-is k row column at below (omega (arith, short, height))))) ∙ ap (λ j. Some (read j)) (sym front))

  own-column : (k : ℕ) (column : ColumnValue) → slice_get columns k ≡ Some column → k < length columns
      → read_column rules (map (λ row. ended_row (row_fields write columns tail row)) (range_with_len 0 (height_of columns))) (k, entry_at (schema_of columns) k) ≡ column
  own-column k column at below =
      let given : List Row = map rows_written (range_with_len 0 (height_of columns)) in
      ap (λ (e : Entry). read_column rules given (k, e)) (entry-is columns k column at)
      ∙ ap (λ (v : List (Option Scalar)). record { name = column.name; dtype = column.dtype; values = v }) (own-cells k column at below)

  -- all columns are read as they were
  pub columns-return : frame_of_rows rules (entries_in (schema_of columns) (range_with_len 0 (length (schema_of columns)))) (map (λ row. ended_row (row_fields write columns tail row)) (range_with_len 0 (height_of columns)))
      ≡ columns
  columns-return =
      let schema : List Entry = schema_of columns in
      let given : List Row = map rows_written (range_with_len 0 (height_of columns)) in
      let read : ℕ → ColumnValue = λ place. read_column rules given (place, entry_at schema place) in
      frame-places rules given schema (range_with_len 0 (length schema))
      ∙ ap (λ n. map read (range_with_len 0 n)) (length-map columns (λ (c : ColumnValue). (c.name, c.dtype)))
      ∙ map-places read columns 0
      (λ k below. let found = there columns k below in let front : 0 + k ≡ k = omega arith in
      found.1 ∙ ap (λ (c : ColumnValue). Some c) (sym (own-column k found.0 found.1 below)) ∙ ap (λ j. Some (read j)) (sym front))
