-- The batches of all calls are the whole read.
use Rattle.std.proofs.Common.{◌≡◌, ℕ, ◌+◌, ◌-◌, ◌<◌, Bool, true, false, ◌||◌, ◌==◌, List, [], ◌∷◌, ◌++◌, map, length, take, drop, refl, sym, ◌∙◌, ap, subst, inl, inr, arith, append_assoc, append-nil, length-append}
use Rattle.std.specs.Prelude.{◌⊎◌, Option, None, Some, pos, unwrap_or}
use Rattle.std.proofs.lemmas.Bool.Decides.{nat_tests}
use Rattle.std.proofs.lemmas.List.{append_cancel_right, length-take-le, take-append-drop}
use Rattle.pl_frame.specs.Dialect.{IsDialect}
use Rattle.pl_frame.specs.declared.data_type.DataType.TheVariants as dtype
use Rattle.pl_frame.specs.Frame.{Scalar, Number, ColumnValue}
use Rattle.pl_frame.specs.FrameParts.{stacked, empty_columns, all_stacked}
use Rattle.pl_frame.specs.RowIndex.{row_numbers}
use Rattle.pl_frame.specs.Schema.{Entry}
use Rattle.pl_frame.specs.declared.error.OpFault.TheVariants as op_fault
use Rattle.pl_frame.specs.declared.error.PolarsError.{PolarsError}
use Rattle.pl_frame.specs.declared.error.PolarsError.TheVariants as error
use Rattle.pl_cells.specs.InitBuffers.{entry_at}
use Rattle.pl_options.specs.declared.read_options.CsvReadOptions.{CsvReadOptions}
use Rattle.pl_options.specs.declared.row_index.RowIndex.{RowIndex}
use Rattle.pl_options.specs.FirstCause.{IsFirstCause, Tells, first_some}
use Rattle.pl_options.specs.Text.{marks_of, comment_of}
use Rattle.pl_rows.specs.Cells.{RowRules}
use Rattle.pl_rows.specs.Columns.{entries_in, frame_of_rows}
use Rattle.pl_rows.specs.Pieces.{left_limit}
use Rattle.pl_rows.specs.Ranges.{limited}
use Rattle.pl_table.specs.Rows.{Row, rows}
use Rattle.pl_read.specs.BatchJoining.{Call, AreCalls, all_joined, empty_frame, BatchesJoinToTheWholeRead}
use Rattle.pl_read.specs.Batches.{Batches, EndsAtItem, StandsInData, rows_behind, batch_rows, index_behind, frame_behind, AreFramesOf, is_reached, is_over, AreBatches, opened, opening_causes}
use Rattle.pl_read.specs.Options.{data_of, rules_of, settled_schema}
use Rattle.pl_read.specs.Projection.{projected}
use Rattle.pl_read.specs.Rows.{rows_in, with_index}
use Rattle.pl_rows.proofs.SoundTextLaws.{columns-stacked}
use Rattle.pl_read.proofs.BatchLaws.{rows_in-behind, rows_in-nil, StandsInData-fresh}

-- ---- frames of rows, one behind the other

-- the numbers of the rows
numbers-stacked : (offset : ℕ) (xs ys : List Row) → row_numbers offset (length xs) ++ row_numbers (offset + length xs) (length ys) ≡ row_numbers offset (length (xs ++ ys))
numbers-stacked offset [] ys = let same : offset + 0 ≡ offset = omega arith in ap (λ n. row_numbers n (length ys)) same
numbers-stacked offset (x ∷ xs) ys =
    let next : offset + length (x ∷ xs) ≡ offset + 1 + length xs = omega arith in
    ap (λ l. Some (Number (pos offset)) ∷ l) (ap (λ n. row_numbers (offset + 1) (length xs) ++ row_numbers n (length ys)) next ∙ numbers-stacked (offset + 1) xs ys)

-- the frame of rows, from the first number on
abbrev frame_in : CsvReadOptions → List Entry → List Row → List ColumnValue
frame_in o schema given = with_index o.row_index (length given) (frame_of_rows (rules_of o schema) (entries_in schema (projected o schema)) given)

-- columns behind numbers
abbrev with_numbers : RowIndex → List (Option Scalar) → List ColumnValue → List ColumnValue
with_numbers index values others = record { name = index.name; dtype = dtype.UInt64; values = values } ∷ others

-- with the frame of the next rows
frame-stacked : (o : CsvReadOptions) (schema : List Entry) (xs ys : List Row) → stacked (frame_in o schema xs) (frame_behind o schema (length xs) ys) ≡ frame_in o schema (xs ++ ys)
frame-stacked o schema xs ys = by o.row_index
  where
    rules : RowRules
    rules = rules_of o schema

    columns : List (ℕ × Entry)
    columns = entries_in schema (projected o schema)

    by : (index : Option RowIndex) → stacked (with_index index (length xs) (frame_of_rows rules columns xs)) (with_index (index_behind (length xs) index) (length ys) (frame_of_rows rules columns ys))
        ≡ with_index index (length (xs ++ ys)) (frame_of_rows rules columns (xs ++ ys))
    by None = columns-stacked rules columns xs ys
    by (Some index) =
        ap (λ (values : List (Option Scalar)). with_numbers index values (stacked (frame_of_rows rules columns xs) (frame_of_rows rules columns ys))) (numbers-stacked index.offset xs ys)
        ∙ ap (with_numbers index (row_numbers index.offset (length (xs ++ ys)))) (columns-stacked rules columns xs ys)

-- and with frames of them
frames-joined : (o : CsvReadOptions) (schema : List Entry) (xs ys : List Row) (frames : List (List ColumnValue)) → AreFramesOf o schema (length xs) ys frames → all_stacked (frame_in o schema xs) frames ≡ frame_in o schema (xs ++ ys)
frames-joined o schema xs ys [] none = ap (frame_in o schema) (sym (append-nil xs) ∙ ap (λ l. xs ++ l) (sym none))
frames-joined o schema xs ys (frame ∷ frames) (n, few, is, others) =
    let first : List Row = take n ys in
    let size : length first ≡ n = length-take-le n ys few in
    let more : length xs + n ≡ length (xs ++ first) = omega (arith, length-append xs first, size) in
    ap (λ f. all_stacked (stacked (frame_in o schema xs) f) frames) is
    ∙ ap (λ f. all_stacked f frames) (frame-stacked o schema xs first)
    ∙ frames-joined o schema (xs ++ first) (drop n ys) frames (subst (λ k. AreFramesOf o schema k (drop n ys) frames) more others)
    ∙ ap (frame_in o schema) (append_assoc xs first (drop n ys) ∙ ap (λ l. xs ++ l) (take-append-drop n ys))

-- ---- where there is no batch

-- where the limit is reached, no rows are left
reached-none : (limit : Option ℕ) (count : ℕ) (given : List Row) → is_reached limit count ≡ true → limited (left_limit limit count) given ≡ []
reached-none None count given e = absurd (cc)
reached-none (Some n) count given e = let none : n - count ≡ 0 = grind (arith, nat_tests) in ap (λ k. take k given) none

nil-of : {X : Type 0} (xs : List X) → length xs ≡ 0 → xs ≡ []
nil-of [] none = refl
nil-of (x ∷ xs) none = absurd (omega arith)

module _ (o : CsvReadOptions) (schema : List Entry) (records : List ℕ) (dialect : IsDialect (marks_of o.parse_options) (comment_of o.parse_options)) where
  -- a reader over the data
  abbrev over : List ℕ → ℕ → Option PolarsError → Batches
  over rest count fault = record { options = o; schema = schema; records = records; rest = rest; rows = count; fault = fault }

  -- where it has no batch, all rows stand before what is left
  rows-over : (rest : List ℕ) (count n : ℕ) (fault : Option PolarsError) (stands : StandsInData (over rest count fault)) → 0 < n → is_over (over rest count fault) n ≡ true → rows_in o stands.front ≡ rows_in o records
  rows-over rest count n fault stands some is = by_none (length rest == 0) refl
    where
      front : List ℕ
      front = stands.front

      whole : rest ≡ [] → rows_in o front ≡ rows_in o records
      whole none = ap (rows_in o) (sym (append-nil front) ∙ ap (λ l. front ++ l) (sym none) ∙ sym stands.cut_is)

      reached : is_reached o.n_rows count ≡ true → EndsAtItem o front → rows_in o front ≡ rows_in o records
      reached most ends =
          let none : rows_behind o (length (rows_in o front)) rest ≡ [] =
          ap (λ k. rows_behind o k rest) (sym stands.count) ∙ reached-none o.n_rows count (rows (marks_of o.parse_options) (comment_of o.parse_options) rest) most in
          sym (ap (rows_in o) stands.cut_is ∙ rows_in-behind o front rest dialect ends ∙ ap (λ l. rows_in o front ++ l) none ∙ append-nil (rows_in o front))

      by_none : (t : Bool) → (length rest == 0) ≡ t → rows_in o front ≡ rows_in o records
      by_none true e = let none : length rest ≡ 0 = grind (arith, nat_tests) in whole (nil-of rest none)
      by_none false e = by_start stands.start
        where
          asked : (n == 0) ≡ false
          asked = grind (arith, nat_tests)

          most : is_reached o.n_rows count ≡ true
          most = by_tests (n == 0) (is_reached o.n_rows count) (length rest == 0) asked e is
            where
              by_tests : (a b c : Bool) → a ≡ false → c ≡ false → (a || (b || c)) ≡ true → b ≡ true
              by_tests true b c x y z = absurd (cc)
              by_tests false true c x y z = refl
              by_tests false false true x y z = absurd (cc)
              by_tests false false false x y z = absurd (cc)

          by_start : (rest ≡ []) ⊎ EndsAtItem o front → rows_in o front ≡ rows_in o records
          by_start (inl none) = whole none
          by_start (inr ends) = reached most ends

  -- a call's batches stand behind the rows before what was left
  rows-next : (rest : List ℕ) (count n : ℕ) (fault : Option PolarsError) (next : Batches) (frames : List (List ColumnValue)) (stands : StandsInData (over rest count fault)) (are : AreBatches (over rest count fault) next n frames)
      → (behind : StandsInData next) → next.records ≡ records → rows_in o behind.front ≡ rows_in o stands.front ++ batch_rows (over rest count fault) n
  rows-next rest count n fault next frames stands are behind same =
      let front : List ℕ = stands.front in
      let cut : front ++ are.read ++ next.rest ≡ behind.front ++ next.rest =
      append_assoc front are.read next.rest ∙ ap (λ l. front ++ l) (sym are.left) ∙ sym stands.cut_is ∙ sym same ∙ behind.cut_is in
      let front_is : front ++ are.read ≡ behind.front = append_cancel_right (front ++ are.read) behind.front next.rest cut in
      ap (rows_in o) (sym front_is)
      ∙ rows_in-behind o front are.read dialect (ends stands.start)
      ∙ ap (λ k. rows_in o front ++ rows_behind o k are.read) (sym stands.count)
      ∙ ap (λ l. rows_in o front ++ l) are.rows_are
    where
      ends : (rest ≡ []) ⊎ EndsAtItem o stands.front → EndsAtItem o stands.front
      ends (inl none) = absurd (let gone : length rest ≡ 0 = ap length none in omega (arith, are.shorter, gone))
      ends (inr there) = there

  -- all calls
  calls-joined : (rest : List ℕ) (count : ℕ) (fault : Option PolarsError) (calls : List Call) (stands : StandsInData (over rest count fault)) → AreCalls (over rest count fault) calls
      → all_joined (frame_in o schema (rows_in o stands.front)) calls ≡ frame_in o schema (rows_in o records)
  calls-joined rest count fault [] stands (n, some, is) = ap (frame_in o schema) (rows-over rest count n fault stands some is)
  calls-joined rest count fault (call ∷ calls) stands (some, are, behind, others) =
      let given : List Row = batch_rows (over rest count fault) call.count in
      let left : List ℕ = call.behind.rest in
      let there : call.behind ≡ over left (count + length given) fault = are.new_is in
      let frames_are : AreFramesOf o schema (length (rows_in o stands.front)) given call.frames = subst (λ k. AreFramesOf o schema k given call.frames) stands.count are.frames_are in
      let next : StandsInData (over left (count + length given) fault) = subst StandsInData there behind in
      let moved : AreBatches (over rest count fault) (over left (count + length given) fault) call.count call.frames = subst (λ b. AreBatches (over rest count fault) b call.count call.frames) there are in
      let same : rows_in o next.front ≡ rows_in o stands.front ++ given = rows-next rest count call.count fault (over left (count + length given) fault) call.frames stands moved next refl in
      ap (λ f. all_joined f calls) (frames-joined o schema (rows_in o stands.front) given call.frames frames_are ∙ ap (frame_in o schema) (sym same))
      ∙ calls-joined left (count + length given) fault calls next (subst (λ b. AreCalls b calls) there others)

-- ---- from the opening on

-- the marks of what was opened are a dialect
dialect-opened : (o : CsvReadOptions) (schema : List Entry) (input : List ℕ) → IsFirstCause (opening_causes o schema input) o.parse_options None → IsDialect (marks_of o.parse_options) (comment_of o.parse_options)
dialect-opened o schema input first = by first.is_dialect first.tells first.is
  where
    none_some : ◌≡◌ {A = Option PolarsError} None (Some (error.InvalidOperation op_fault.Dialect)) → ⊥
    none_some h = cc

    by : (d : Bool) → Tells d (IsDialect (marks_of o.parse_options) (comment_of o.parse_options)) → None ≡ first_some (opening_causes o schema input d) → IsDialect (marks_of o.parse_options) (comment_of o.parse_options)
    by true tells is = tells
    by false tells is = absurd (none_some is)

-- the frame of no rows
columns-none : (rules : RowRules) (schema : List Entry) (places : List ℕ) → frame_of_rows rules (entries_in schema places) [] ≡ empty_columns (map (entry_at schema) places)
columns-none rules schema [] = refl
columns-none rules schema (place ∷ places) = ap (λ (others : List ColumnValue). record { name = (entry_at schema place).0; dtype = (entry_at schema place).1; values = [] } ∷ others) (columns-none rules schema places)

empty-is : (o : CsvReadOptions) (schema : List Entry) → empty_frame o schema ≡ frame_in o schema []
empty-is o schema = ap (with_index o.row_index 0) (sym (columns-none (rules_of o schema) schema (projected o schema)))

-- the batches of all calls
pub batches-whole : BatchesJoinToTheWholeRead
batches-whole o input calls first are =
    let schema : List Entry = settled_schema o input in
    let records : List ℕ = unwrap_or (data_of o input) [] in
    let dialect = dialect-opened o schema input first.0 in
    let stands : StandsInData (opened o input) = StandsInData-fresh o schema records in
    ap (λ f. all_joined f calls) (empty-is o schema ∙ ap (frame_in o schema) (sym (rows_in-nil o)))
    ∙ calls-joined o schema records dialect records 0 None calls stands are
