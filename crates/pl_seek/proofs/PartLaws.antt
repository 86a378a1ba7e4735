-- Records of a part, read alone.
use Rattle.std.proofs.Common.{◌≡◌, ℕ, suc, ◌+◌, ◌-◌, ◌<◌, ◌==◌, ◌⊎◌, Bool, true, false, not, List, [], ◌∷◌, ◌++◌, length, take, drop, Option, Some, None, refl, sym, ◌∙◌, ap, subst, arith, inl, inr, length-drop}
use Rattle.std.specs.Prelude.{Result, Ok, Err, IfOk, if◌then◌else◌}
use Rattle.std.specs.Option.{option_map, option_and_then}
use Rattle.std.proofs.lemmas.List.{length-take, length-take-le, drop_all}
use Rattle.std.proofs.lemmas.List.Folds.{length-prefix_len}
use Rattle.pl_frame.specs.Dialect.{Marks, AreDistinct, IsDialect}
use Rattle.pl_frame.specs.Frame.{IsFrame, height_of}
use Rattle.pl_frame.specs.Schema.{Entry, HaveDistinctNames}
use Rattle.pl_frame.specs.declared.error.FaultKind.{FaultKind}
use Rattle.pl_frame.specs.declared.error.ComputeFault.TheVariants as compute_fault
use Rattle.pl_frame.specs.declared.error.NamePlace.TheVariants as name_place
use Rattle.pl_frame.specs.declared.error.PolarsError.{PolarsError}
use Rattle.pl_frame.specs.declared.error.PolarsError.TheVariants as error
use Rattle.pl_scan.specs.Comment.{is_comment}
use Rattle.pl_scan.specs.Dialect as scan
use Rattle.pl_scan.specs.Fields.{extent}
use Rattle.pl_scan.specs.Items.{text_of, item}
use Rattle.pl_scan.proofs.ItemLaws.{IsRecordAt-extent}
use Rattle.pl_options.specs.declared.read_options.CsvReadOptions.{CsvReadOptions}
use Rattle.pl_options.specs.FirstCause.{first_some, Tells, IsFirstCause}
use Rattle.pl_options.specs.Text.{marks_of, comment_of}
use Rattle.pl_options.specs.declared.row_index.RowIndex.{RowIndex}
use Rattle.pl_read.specs.Batches.{index_behind}
use Rattle.pl_read.specs.Options.{rules_of}
use Rattle.pl_read.specs.Projection.{projected, doubled_name, taken_name, has_projected}
use Rattle.pl_read.specs.Rows.{columns_read, with_index}
use Rattle.pl_read.specs.SettleGiven.{given_schema, settled_causes, given_causes}
use Rattle.pl_read.specs.Refusals.{early_causes}
use Rattle.pl_infer.specs.Schemas.{first_unreadable_column}
use Rattle.pl_read.proofs.SelectionLaws.{each-none}
use Rattle.pl_read.proofs.CauseLaws.{first_some-one, first_some-rest}
use Rattle.pl_read.proofs.ChunkLaws.{IsFrame-range}
use Rattle.pl_read.proofs.DataLaws.{IsFrame-indexed}
use Rattle.pl_read.proofs.NextLaws.{faulty-behind, faulty-inside}
use Rattle.pl_read.proofs.ProjectionLaws.{projected-rises}
use Rattle.pl_rows.specs.declared.columns.RangeColumns.{RangeColumns}
use Rattle.pl_rows.specs.declared.plan.RangePlan.{RangePlan}
use Rattle.pl_rows.specs.declared.range.RangeEnd.TheVariants as end
use Rattle.pl_rows.specs.Columns.{entries_in, columns_in, frame_of_rows}
use Rattle.pl_rows.specs.Ranges.{IsRangeRead, limited, judged_rows, end_of, sound_rows, has_unjudged}
use Rattle.pl_rows.specs.Rows.{first_faulty}
use Rattle.pl_rows.proofs.RangeLaws.{rows-nil, rows-step, rows-comment, few_rows}
use Rattle.pl_rows.proofs.WholeLaws.{judged-last, sound-all, none-first, fault-first}
use Rattle.pl_table.specs.Rows.{Row, rows, row_at}
use Rattle.pl_seek.specs.Parts.{rows_from, columns_of_rows, fault_in_rows}
use Rattle.pl_seek.specs.PartSteps.{one_unless, IsPartPlan, AreRead, AreColumns}
use Rattle.pl_seek.proofs.PlaceLaws.{item_by}

-- ---- behind so many records

module _ (m : Marks) (comment : Option (List ℕ)) (b : List ℕ) (some : 0 < length b) where
  abbrev size_by : Bool → ℕ
  size_by t = length (text_of (item_by t m b))

  pub rows-behind_comment : is_comment comment b ≡ true → rows m comment b ≡ rows m comment (drop (length (text_of (item m comment b)) + 1) b)
  rows-behind_comment starts =
      rows-comment m comment b some starts
      ∙ ap (λ k. rows m comment (drop (k + 1) b)) (sym (length-prefix_len (λ x. not (x == m.line_end)) b))
      ∙ sym (ap (λ t. rows m comment (drop (size_by t + 1) b)) starts)

  pub rows-behind_record : AreDistinct m → is_comment comment b ≡ false → rows m comment b ≡ row_at m b ∷ rows m comment (drop (length (text_of (item m comment b)) + 1) b)
  rows-behind_record distinct plain =
      rows-step m comment b distinct some plain
      ∙ ap (λ k. row_at m b ∷ rows m comment (drop (k + 1) b)) (sym (length-take-le (extent m b) b (IsRecordAt-extent m b).fits))
      ∙ sym (ap (λ t. row_at m b ∷ rows m comment (drop (size_by t + 1) b)) plain)

-- one more item passed
pub passed-more : (m : Marks) (comment : Option (List ℕ)) (b behind : List ℕ) (all : List Row) (left now len : ℕ) (starts : Bool) → AreDistinct m → 0 < length b → 0 < left → starts ≡ is_comment comment b
    → len ≡ length (text_of (item m comment b)) → behind ≡ drop (len + 1) b → now ≡ left - one_unless starts → drop left (rows m comment b) ≡ all → drop now (rows m comment behind) ≡ all
passed-more m comment b behind all left now len starts distinct some more is len_is next now_is so_far = by starts is now_is
  where
    at : behind ≡ drop (length (text_of (item m comment b)) + 1) b
    at = next ∙ ap (λ k. drop (k + 1) b) len_is

    by_rest : (t : Bool) → now ≡ left - one_unless t → drop now (rows m comment behind) ≡ drop (left - one_unless t) (rows m comment (drop (length (text_of (item m comment b)) + 1) b))
    by_rest t n = λ i. drop (n i) (rows m comment (at i))

    by : (t : Bool) → t ≡ is_comment comment b → now ≡ left - one_unless t → drop now (rows m comment behind) ≡ all
    by true e n =
        let same : left - 0 ≡ left = omega arith in
        by_rest true n ∙ ap (λ k. drop k (rows m comment (drop (length (text_of (item m comment b)) + 1) b))) same ∙ ap (drop left) (sym (rows-behind_comment m comment b some (sym e))) ∙ so_far
    by false e n =
        let one : left ≡ suc (left - 1) = omega (arith, more) in
        by_rest false n
        ∙ sym (ap (drop left) (rows-behind_record m comment b some distinct (sym e)) ∙ ap (λ k. drop k (row_at m b ∷ rows m comment (drop (length (text_of (item m comment b)) + 1) b))) one)
        ∙ so_far

pub passed-all : (m : Marks) (comment : Option (List ℕ)) (b : List ℕ) (all : List Row) (left : ℕ) → (left ≡ 0) ⊎ (b ≡ []) → drop left (rows m comment b) ≡ all → rows m comment b ≡ all
passed-all m comment b all left (inl none) so_far = sym (ap (λ k. drop k (rows m comment b)) none) ∙ so_far
passed-all m comment b all left (inr none) so_far =
    let nil = ap (rows m comment) none ∙ rows-nil m comment in
    nil ∙ sym (drop_all left [] (omega arith)) ∙ sym (ap (drop left) nil) ∙ so_far

-- ---- what was read

pub are-read : (plan : RangePlan) (o : CsvReadOptions) (skip count : ℕ) (part rest : List ℕ) (schema : List Entry) (read : RangeColumns) → IsPartPlan plan o count → schema ≡ given_schema o → HaveDistinctNames (given_schema o)
    → taken_name o (given_schema o) ≡ None → IsRangeRead plan schema rest read
    → rows (scan.marks_of plan.dialect) (scan.comment_of plan.dialect) rest ≡ drop skip (rows (scan.marks_of plan.dialect) (scan.comment_of plan.dialect) part)
    → AreRead o (rows_from o skip count part) read
are-read plan o skip count part rest schema read p schema_is distinct free is behind =
    let taken : take count (rows (scan.marks_of plan.dialect) (scan.comment_of plan.dialect) rest) ≡ rows_from o skip count part =
    ap (take count) behind ∙ (λ i. take count (drop skip (rows (p.marks_are i) (p.comment_is i) part))) in
    let given : judged_rows plan rest ≡ rows_from o skip count part =
    judged-last plan rest p.is_last ∙ (λ i. limited (p.limit_is i) (rows (scan.marks_of plan.dialect) (scan.comment_of plan.dialect) rest)) ∙ taken in
    let places : plan.projection.places.now ≡ projected o (given_schema o) = p.places_are in
    record {
      columns = is.columns ∙ (λ i. frame_of_rows (p.rules_are i) (entries_in (schema_is i) (places i)) (sound_rows (p.rules_are i) (columns_in (schema_is i) (places i)) (given i)));
      unjudged = has_unjudged plan rest;
      end_is = is.end_is ∙ (λ i. end_of (first_faulty (p.rules_are i) (columns_in (schema_is i) (places i)) 0 (given i)) (has_unjudged plan rest));
      text = rest;
      count = count;
      given_is = sym taken ∙ (λ i. take count (rows (p.marks_are i) (p.comment_is i) rest));
      distinct = distinct;
      free = free;
    }

-- the row index has the name of no column, from whatever number it begins
free-behind : (o : CsvReadOptions) (before : ℕ) (index : Option RowIndex) → option_and_then (λ (j : RowIndex). if has_projected o (given_schema o) j.name then Some j.name else None) index ≡ None
    → option_and_then (λ (j : RowIndex). if has_projected o (given_schema o) j.name then Some j.name else None) (index_behind before index) ≡ None
free-behind o before None free = refl
free-behind o before (Some index) free = free

module _ (o : CsvReadOptions) (given : List Row) (read : RangeColumns) (are : AreRead o given read) where
  abbrev first : Option (ℕ × (ℕ × FaultKind))
  first = first_faulty (rules_of o (given_schema o)) (columns_read o (given_schema o)) 0 given

  abbrev fault : ℕ × (ℕ × FaultKind) → PolarsError
  fault found = error.ComputeError (compute_fault.Record found.0 found.1.0 found.1.1)

  module _ (either : (read.end ≡ end.Closed) ⊎ (read.end ≡ end.Open)) where
    none : first ≡ None
    none = none-first first are.unjudged read.end are.end_is either

    columns-all : read.columns.items ≡ columns_of_rows o given
    columns-all = are.columns ∙ ap (columns_of_rows o) (sound-all (rules_of o (given_schema o)) (columns_read o (given_schema o)) 0 given none)

    pub none-faulty : (skip : ℕ) → fault_in_rows o skip given ≡ None
    none-faulty skip = ap (option_map fault) (faulty-behind (rules_of o (given_schema o)) (columns_read o (given_schema o)) skip given None none)

    are-numbered : (before : ℕ) → IsFrame (with_index (index_behind before o.row_index) (height_of read.columns.items) read.columns.items)
    are-numbered before =
        let later : CsvReadOptions = record o { row_index = index_behind before o.row_index; n_rows = Some are.count } in
        subst (λ columns. IsFrame (with_index (index_behind before o.row_index) (height_of columns) columns)) (sym (columns-all ∙ ap (columns_of_rows o) are.given_is))
        (IsFrame-indexed later (given_schema o) are.text are.distinct (free-behind o before o.row_index are.free))

    are-frame : IsFrame read.columns.items
    are-frame = subst IsFrame (sym columns-all) (IsFrame-range (rules_of o (given_schema o)) given (given_schema o) (projected o (given_schema o)) are.distinct (projected-rises o (given_schema o)))

    pub are-columns : AreColumns o given read.columns.items
    are-columns = record { columns_are = columns-all; are_frame = are-frame; are_numbered = are-numbered }

  module _ (row column : ℕ) (kind : FaultKind) (is : read.end ≡ end.Fault row column kind) where
    some : first ≡ Some (row, (column, kind))
    some = fault-first first are.unjudged row column kind (sym is ∙ are.end_is)

    pub faulty-row : (skip : ℕ) → fault_in_rows o skip given ≡ Some (error.ComputeError (compute_fault.Record (skip + row) column kind))
    faulty-row skip = ap (option_map fault) (faulty-behind (rules_of o (given_schema o)) (columns_read o (given_schema o)) skip given (Some (row, (column, kind))) some)

    pub faulty-fits : (skip bound : ℕ) → skip + length given < bound → skip + row < bound
    faulty-fits skip bound fits = let inside = faulty-inside (rules_of o (given_schema o)) (columns_read o (given_schema o)) 0 given row (column, kind) some in omega (arith, inside, fits)

-- so many rows stand in front, and these are there
pub rows-fit : (o : CsvReadOptions) (skip count bound : ℕ) (part : List ℕ) → AreDistinct (marks_of o.parse_options) → skip < bound → length part < bound → skip + length (rows_from o skip count part) < bound
rows-fit o skip count bound part distinct one all =
    let every = rows (marks_of o.parse_options) (comment_of o.parse_options) part in
    let few = few_rows (marks_of o.parse_options) (comment_of o.parse_options) distinct (length part) part (omega arith) in
    let taken = length-take count (drop skip every) in
    let left = length-drop skip every in
    omega (arith, few, taken, left, one, all)

-- ---- what the options say

unmapped : {X Y : Type 0} (f : X → Y) (x : Option X) → option_map f x ≡ None → x ≡ None
unmapped f None none = refl
unmapped f (Some x) none = cc

pub readable-given : (o : CsvReadOptions) → IsFirstCause (given_causes o) o.parse_options None → first_unreadable_column (given_schema o) ≡ None
readable-given o sound =
    let each = each-none (given_causes o sound.is_dialect) (sym sound.is) in
    unmapped (λ column. error.ComputeError (compute_fault.Dtype column)) (first_unreadable_column (given_schema o)) each.1.1.1.0

pub free-given : (o : CsvReadOptions) → IsFirstCause (given_causes o) o.parse_options None → taken_name o (given_schema o) ≡ None
free-given o sound =
    let each = each-none (given_causes o sound.is_dialect) (sym sound.is) in
    let taken = taken_name o (given_schema o) in
    let none = unmapped (λ name. error.Duplicate name name_place.Projection) (first_some (doubled_name o (given_schema o) ∷ taken ∷ [])) each.1.1.1.1.1.1.0 in
    sym (first_some-one taken) ∙ first_some-rest (doubled_name o (given_schema o)) (taken ∷ []) none

pub dialect-early : (o : CsvReadOptions) (late : List (Option PolarsError)) → IsFirstCause (λ is_dialect. early_causes o is_dialect ++ late) o.parse_options None → IsDialect (marks_of o.parse_options) (comment_of o.parse_options)
dialect-early o late sound = by sound.is_dialect sound.tells sound.is
  where
    by : (t : Bool) → Tells t (IsDialect (marks_of o.parse_options) (comment_of o.parse_options)) → None ≡ first_some (early_causes o t ++ late) → IsDialect (marks_of o.parse_options) (comment_of o.parse_options)
    by true tells is = tells
    by false tells is = absurd (cc)

pub dialect-given : (o : CsvReadOptions) → IsFirstCause (given_causes o) o.parse_options None → IsDialect (marks_of o.parse_options) (comment_of o.parse_options)
dialect-given o sound = dialect-early o (settled_causes o (given_schema o)) sound

pub ok-map : {T E : Type 0} {P Q : T → Type 0} (r : Result T E) → ((x : T) → P x → Q x) → IfOk r P → IfOk r Q
ok-map (Ok x) f p = f x p
ok-map (Err e) f p = tt
