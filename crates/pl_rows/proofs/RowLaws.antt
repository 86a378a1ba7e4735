-- A row, column by column.
use Rattle.std.proofs.Common.{◌≡◌, ℕ, ◌+◌, ◌-◌, ◌<◌, ◌≤◌, Bool, true, false, not, ◌||◌, ◌==◌, List, [], ◌∷◌, ◌++◌, map, length, take, drop, set, get_or, refl, sym, ◌∙◌, ap, append-nil, arith, eqb-true}
use Rattle.std.specs.Prelude.{Option, None, Some, Ok, Err}
use Rattle.std.specs.Borrow.{Bor}
use Rattle.std.specs.List.{filter_map, cons_option, zip}
use Rattle.std.proofs.Common.{inl, inr}
use Rattle.std.proofs.lemmas.List.{length-take-le, length-map, drop-drop, drop_more, drop_all, take_all, take_more, take_more_set, drop-set-lt, take-append-drop}
use Rattle.std.proofs.lemmas.Slice.Zip.{length-zip}
use Rattle.pl_frame.specs.declared.data_type.DataType.{DataType}
use Rattle.pl_frame.specs.declared.error.FaultKind.{FaultKind}
use Rattle.pl_frame.specs.Frame.{Scalar}
use Rattle.pl_scan.specs.Dialect.{marks_of}
use Rattle.pl_scan.specs.Fields.{fields, extent}
use Rattle.pl_cells.specs.declared.cell_fault.CellFault.{CellFault}
use Rattle.pl_cells.specs.BufferValue.{BufferValue, with_value, IsCellFault, with_more}
use Rattle.pl_cells.specs.Cells.{value_of, fault_of}
use Rattle.pl_cells.specs.Faults.{Fault, kind_of}
use Rattle.pl_rows.specs.declared.plan.RangePlan.{RangePlan}
use Rattle.pl_rows.specs.declared.row.RowFault.{RowFault}
use Rattle.pl_rows.specs.declared.row_rest.RowRest.{RowRest}
use Rattle.pl_rows.specs.Cells.{RowRules, cell}
use Rattle.pl_rows.specs.Columns.{with_columns}
use Rattle.pl_rows.specs.Plan.{AreRising, rules_of, plan_columns, state_types}
use Rattle.pl_rows.specs.RowRest.{fields_left, behind_row}
use Rattle.pl_cells.specs.Columns.{field_in}
use Rattle.pl_rows.specs.Rows.{column_fault, first_or, excess_fault, passes_excess, first_fault}
use Rattle.pl_table.specs.Rows.{Row, row_at}
use Rattle.pl_rows.specs.Steps.{without_last, cut_back, HaveCells, HasAddedCells, IsCellsFault, IsRowFault, IsRowEnd, passes_more, row_fault_of}
use Rattle.pl_rows.proofs.ColumnLaws.{with_columns-more, without_last-with_columns}
use Rattle.pl_rows.proofs.ExcessLaws.{excess_fault-done, excess_fault-more, row_fault-is}
use Rattle.pl_rows.proofs.PlanLaws.{rising-at}
use Rattle.pl_rows.proofs.RestLaws.{field_at-drop}

-- the faults of cells of a row
abbrev pub cell_faults : RowRules → List (List ℕ) → List ℕ → List DataType → List (ℕ × FaultKind)
cell_faults rules fs places types = filter_map (column_fault rules fs) (zip places types)

-- what a loop over the columns of a row has done where it comes to a column, and has read the fields before a number
pub record HasReadColumns (plan : RangePlan) (b : List ℕ) (before now : List BufferValue) (left : RowRest) (i next : ℕ) : Type 0 where
  pub left_is : fields_left (marks_of plan.dialect) left ≡ drop next (fields (marks_of plan.dialect) b)
  pub behind_is : behind_row (marks_of plan.dialect) left ≡ drop (extent (marks_of plan.dialect) b) b
  pub cells : HaveCells plan (row_at (marks_of plan.dialect) b) i before now
  pub sound : cell_faults (rules_of plan) (fields (marks_of plan.dialect) b) plan.projection.places.now (state_types before)
      ≡ cell_faults (rules_of plan) (fields (marks_of plan.dialect) b) (drop i plan.projection.places.now) (state_types (drop i before))
  pub rising : AreRising next plan.projection.width (drop i plan.projection.places.now)
  pub few : i ≤ next
  pub inside : next ≤ plan.projection.width

-- the column that the loop comes to
pub record IsAt (plan : RangePlan) (before now : List BufferValue) (i place : ℕ) (old : BufferValue) : Type 0 where
  pub inside : i < length now
  pub same : length now ≡ length before
  pub count : length plan.projection.places.now ≡ length before
  pub is : get_or now i old ≡ old
  pub place_is : place ≡ get_or plan.projection.places.now i 0

pub here_places : (plan : RangePlan) (before now : List BufferValue) (i place : ℕ) (old : BufferValue) → IsAt plan before now i place old
    → drop i plan.projection.places.now ≡ place ∷ drop (i + 1) plan.projection.places.now
here_places plan before now i place old at =
    let places = plan.projection.places.now in
    let within : i < length places = omega (arith, at.inside, at.same, at.count) in
    drop_more places i 0 within ∙ ap (λ p. p ∷ drop (i + 1) places) (sym at.place_is)

here_now : (plan : RangePlan) (before now : List BufferValue) (i place : ℕ) (old : BufferValue) → IsAt plan before now i place old → drop i now ≡ old ∷ drop (i + 1) now
here_now plan before now i place old at = drop_more now i old at.inside ∙ ap (λ s. s ∷ drop (i + 1) now) at.is

pub here_before : (plan : RangePlan) (before now : List BufferValue) (i place : ℕ) (old : BufferValue) → IsAt plan before now i place old → drop i now ≡ drop i before
    → drop i before ≡ old ∷ drop (i + 1) before
here_before plan before now i place old at rest =
    sym rest ∙ here_now plan before now i place old at ∙ ap (λ r. old ∷ r) (sym (drop-drop 1 i now) ∙ ap (drop 1) rest ∙ drop-drop 1 i before)

pub head_before : (before : List BufferValue) (i : ℕ) (old : BufferValue) → i < length before → drop i before ≡ old ∷ drop (i + 1) before → get_or before i old ≡ old
head_before before i old within is = let more = drop_more before i old within in cc

-- where the next column's field begins
pub next_place : (plan : RangePlan) (b : List ℕ) (before now : List BufferValue) (left : RowRest) (i next place : ℕ) (old : BufferValue)
    → HasReadColumns plan b before now left i next → IsAt plan before now i place old
    → (next ≤ place) × (place < plan.projection.width) × AreRising (place + 1) plan.projection.width (drop (i + 1) plan.projection.places.now)
next_place plan b before now left i next place old read at =
    rising-at next plan.projection.width (drop i plan.projection.places.now) (drop (i + 1) plan.projection.places.now) place (here_places plan before now i place old at) read.rising

-- the field of the next column
pub next_field_is : (plan : RangePlan) (b : List ℕ) (before now : List BufferValue) (left begin : RowRest) (i next place : ℕ) (old : BufferValue)
    → HasReadColumns plan b before now left i next → IsAt plan before now i place old
    → fields_left (marks_of plan.dialect) begin ≡ drop (place - next) (fields_left (marks_of plan.dialect) left)
    → (fields_left (marks_of plan.dialect) begin ≡ drop place (fields (marks_of plan.dialect) b)) × (field_in (fields_left (marks_of plan.dialect) begin) 0 ≡ field_in (fields (marks_of plan.dialect) b) place)
next_field_is plan b before now left begin i next place old read at begin_is =
    let fs = fields (marks_of plan.dialect) b in
    let low = (next_place plan b before now left i next place old read at).0 in
    let k : next + (place - next) ≡ place = omega arith in
    let there : fields_left (marks_of plan.dialect) begin ≡ drop place fs =
    begin_is ∙ ap (drop (place - next)) read.left_is ∙ drop-drop (place - next) next fs ∙ ap (λ j. drop j fs) k in
    (there, ap (λ l. field_in l 0) there ∙ field_at-drop fs place)

-- a column more was read without a fault
pub HasReadColumns-more : (plan : RangePlan) (b : List ℕ) (before now : List BufferValue) (left begin behind : RowRest) (i next place : ℕ) (old : BufferValue) (value : Option Scalar)
    → HasReadColumns plan b before now left i next → IsAt plan before now i place old
    → fields_left (marks_of plan.dialect) begin ≡ drop (place - next) (fields_left (marks_of plan.dialect) left) → behind_row (marks_of plan.dialect) begin ≡ behind_row (marks_of plan.dialect) left
    → fields_left (marks_of plan.dialect) behind ≡ drop 1 (fields_left (marks_of plan.dialect) begin) → behind_row (marks_of plan.dialect) behind ≡ behind_row (marks_of plan.dialect) begin
    → cell (rules_of plan) place old.dtype (field_in (fields_left (marks_of plan.dialect) begin) 0) ≡ Ok value
    → HasReadColumns plan b before (set now i (with_value old value)) behind (i + 1) (place + 1)
HasReadColumns-more plan b before now left begin behind i next place old value read at begin_is begin_behind left_next behind_next ok =
    let rules = rules_of plan in
    let fs = fields (marks_of plan.dialect) b in
    let row = row_at (marks_of plan.dialect) b in
    let places = plan.projection.places.now in
    let new = with_value old value in
    let low = next_place plan b before now left i next place old read at in
    let field = next_field_is plan b before now left begin i next place old read at begin_is in
    let fine : cell rules place old.dtype (field_in fs place) ≡ Ok value = sym (ap (cell rules place old.dtype) field.1) ∙ ok in
    let there = here_before plan before now i place old at read.cells.rest in
    let within : i < length before = omega (arith, at.inside, at.same) in
    let within_places : i < length places = omega (arith, at.count) in
    let head = head_before before i old within there in
    record {
      left_is = left_next ∙ ap (drop 1) field.0 ∙ drop-drop 1 place fs;
      behind_is = behind_next ∙ begin_behind ∙ read.behind_is;
      cells = record {
        front =
            take_more_set now i new at.inside
            ∙ ap (λ l. l ++ new ∷ []) read.cells.front
            ∙ ap (λ c. with_columns rules (row ∷ []) (take i places) (take i before) ++ with_more old (value_of c ∷ []) ∷ []) (sym fine)
            ∙ sym (with_columns-more rules (row ∷ []) (take i places) (take i before) place old (length-take-le i places (omega arith) ∙ sym (length-take-le i before (omega arith))))
            ∙ ap (λ p. with_columns rules (row ∷ []) (take i places ++ p ∷ []) (take i before ++ old ∷ [])) at.place_is
            ∙ ap (λ ps. with_columns rules (row ∷ []) ps (take i before ++ old ∷ [])) (sym (take_more places i 0 within_places))
            ∙ ap (λ bs. with_columns rules (row ∷ []) (take (i + 1) places) bs) (sym (take_more before i old within ∙ ap (λ o. take i before ++ o ∷ []) head));
        rest = drop-set-lt (i + 1) now i new (omega arith) ∙ sym (drop-drop 1 i now) ∙ ap (drop 1) read.cells.rest ∙ drop-drop 1 i before;
      };
      sound =
          read.sound
          ∙ ap (λ ps. cell_faults rules fs ps (state_types (drop i before))) (here_places plan before now i place old at)
          ∙ ap (λ bs. cell_faults rules fs (place ∷ drop (i + 1) places) (state_types bs)) there
          ∙ ap (λ c. passed (fault_of c)) fine;
      rising = low.2;
      few = let enough = read.few in let higher = low.0 in omega arith;
      inside = let below = low.1 in omega arith;
    }
  where
    passed : Option FaultKind → List (ℕ × FaultKind)
    passed o = cons_option (elim o as (λ _. Option (ℕ × FaultKind)) [ None ↦ None | Some kind ↦ Some (place, kind) ])
        (cell_faults (rules_of plan) (fields (marks_of plan.dialect) b) (drop (i + 1) plan.projection.places.now) (state_types (drop (i + 1) before)))

-- the first fault where a cell has one
pub first_fault-here : (plan : RangePlan) (b : List ℕ) (before now : List BufferValue) (left begin : RowRest) (i next place : ℕ) (old : BufferValue) (given : Fault)
    → HasReadColumns plan b before now left i next → IsAt plan before now i place old
    → fields_left (marks_of plan.dialect) begin ≡ drop (place - next) (fields_left (marks_of plan.dialect) left)
    → cell (rules_of plan) place old.dtype (field_in (fields_left (marks_of plan.dialect) begin) 0) ≡ Err given
    → first_fault (rules_of plan) (plan_columns plan before) (row_at (marks_of plan.dialect) b) ≡ Some (place, kind_of given)
first_fault-here plan b before now left begin i next place old given read at begin_is wrong =
    let rules = rules_of plan in
    let fs = fields (marks_of plan.dialect) b in
    let row = row_at (marks_of plan.dialect) b in
    let places = plan.projection.places.now in
    let columns = plan_columns plan before in
    let other = excess_fault (passes_excess rules columns) columns.width row in
    let field = next_field_is plan b before now left begin i next place old read at begin_is in
    let fails : cell rules place old.dtype (field_in fs place) ≡ Err given = sym (ap (cell rules place old.dtype) field.1) ∙ wrong in
    let there = here_before plan before now i place old at read.cells.rest in
    ap (first_or other) (read.sound
    ∙ ap (λ ps. cell_faults rules fs ps (state_types (drop i before))) (here_places plan before now i place old at)
    ∙ ap (λ bs. cell_faults rules fs (place ∷ drop (i + 1) places) (state_types bs)) there
    ∙ ap (λ c. passed (fault_of c)) fails)
  where
    passed : Option FaultKind → List (ℕ × FaultKind)
    passed o = cons_option (elim o as (λ _. Option (ℕ × FaultKind)) [ None ↦ None | Some k ↦ Some (place, k) ])
        (cell_faults (rules_of plan) (fields (marks_of plan.dialect) b) (drop (i + 1) plan.projection.places.now) (state_types (drop (i + 1) before)))

-- the answer where a cell has a fault
pub cells_fault : (plan : RangePlan) (b : List ℕ) (before now after : List BufferValue) (left begin : RowRest) (i next place : ℕ) (old : BufferValue) (wrong : CellFault)
    → HasReadColumns plan b before now left i next → IsAt plan before now i place old
    → fields_left (marks_of plan.dialect) begin ≡ drop (place - next) (fields_left (marks_of plan.dialect) left)
    → IsCellFault wrong (cell (rules_of plan) place old.dtype (field_in (fields_left (marks_of plan.dialect) begin) 0)) → after ≡ now
    → IsCellsFault plan b before after i (row_fault_of place wrong)
cells_fault plan b before now after left begin i next place old wrong read at begin_is fault kept =
    let rules = rules_of plan in
    record {
      few = omega (arith, at.inside, at.same);
      added = record { front = ap (take i) kept ∙ read.cells.front; rest = ap (drop i) kept ∙ read.cells.rest };
      first = row_fault-is wrong (cell rules place old.dtype (field_in (fields_left (marks_of plan.dialect) begin) 0)) place
          (first_fault rules (plan_columns plan before) (row_at (marks_of plan.dialect) b)) fault
          (λ given is. first_fault-here plan b before now left begin i next place old given read at begin_is is);
    }

-- the cells of a row are taken back
pub cells-back : (plan : RangePlan) (row : Row) (n : ℕ) (before now : List BufferValue) → n ≤ length before → length plan.projection.places.now ≡ length before → HaveCells plan row n before now
    → cut_back n 1 now ≡ before
cells-back plan row n before now few count cells =
    let places = plan.projection.places.now in
    let same : length (take n places) ≡ length (take n before) = length-take-le n places (omega arith) ∙ sym (length-take-le n before few) in
    ap (λ l. map (without_last 1) l ++ drop n now) cells.front
    ∙ ap (λ l. l ++ drop n now) (without_last-with_columns (rules_of plan) (row ∷ []) 1 (take n places) (take n before) refl same)
    ∙ ap (λ l. take n before ++ l) cells.rest
    ∙ take-append-drop n before

-- rows of which all buffers have their cells are taken back
pub rows-back : (plan : RangePlan) (given : List Row) (n k : ℕ) (before now : List BufferValue) → length given ≡ k → length now ≤ n → length plan.projection.places.now ≡ length before
    → now ≡ with_columns (rules_of plan) given plan.projection.places.now before → cut_back n k now ≡ before
rows-back plan given n k before now many all count is =
    ap (λ l. map (without_last k) l ++ drop n now) (take_all n now all)
    ∙ ap (λ l. map (without_last k) now ++ l) (drop_all n now all)
    ∙ append-nil (map (without_last k) now)
    ∙ ap (map (without_last k)) is
    ∙ without_last-with_columns (rules_of plan) given k plan.projection.places.now before many count

-- ---- the end of a row

-- more fields are passed over as the plan says
pub passes-is : (plan : RangePlan) (before : List BufferValue) → length plan.projection.places.now ≡ length before → passes_excess (rules_of plan) (plan_columns plan before) ≡ passes_more plan
passes-is plan before count =
    let places = plan.projection.places.now in
    let size : length (zip places (state_types before)) ≡ length places = omega (arith, length-zip places (state_types before), length-map before (λ (b : BufferValue). b.dtype)) in
    ap (λ k. plan.options.truncate_ragged_lines || not (k == plan.projection.width)) size

-- where no cell has a fault, the first one is that of the number of fields
pub first_fault-excess : (plan : RangePlan) (b : List ℕ) (before now : List BufferValue) (left : RowRest) → length plan.projection.places.now ≡ length before → HasAddedCells plan b before now left
    → first_fault (rules_of plan) (plan_columns plan before) (row_at (marks_of plan.dialect) b) ≡ excess_fault (passes_more plan) plan.projection.width (row_at (marks_of plan.dialect) b)
first_fault-excess plan b before now left count added =
    let rules = rules_of plan in
    let row = row_at (marks_of plan.dialect) b in
    let columns = plan_columns plan before in
    ap (first_or (excess_fault (passes_excess rules columns) columns.width row)) added.sound
    ∙ ap (λ t. excess_fault t plan.projection.width row) (passes-is plan before count)

-- all columns are read where more fields are a fault
all_read : (plan : RangePlan) → passes_more plan ≡ false → length plan.projection.places.now ≡ plan.projection.width
all_read plan none = by plan.options.truncate_ragged_lines (length plan.projection.places.now == plan.projection.width) refl none
  where
    by : (t u : Bool) → (length plan.projection.places.now == plan.projection.width) ≡ u → (t || not u) ≡ false → length plan.projection.places.now ≡ plan.projection.width
    by true u is e = cc
    by false true is e = eqb-true _ _ is
    by false false is e = cc

-- a row that ends well has no fault
pub row-whole : (plan : RangePlan) (b : List ℕ) (before now : List BufferValue) (left : RowRest) (behind : Bor (List ℕ)) → length plan.projection.places.now ≡ length before
    → HasAddedCells plan b before now left → IsRowEnd plan left (Ok behind)
    → (first_fault (rules_of plan) (plan_columns plan before) (row_at (marks_of plan.dialect) b) ≡ None) × (behind.now ≡ drop (extent (marks_of plan.dialect) b) b)
row-whole plan b before now left behind count added (inl (passed, is)) =
    let row = row_at (marks_of plan.dialect) b in (
      first_fault-excess plan b before now left count added ∙ ap (λ t. excess_fault t plan.projection.width row) passed,
      is ∙ added.behind_is,
    )
row-whole plan b before now left behind count added (inr (judged, done)) =
    let m = marks_of plan.dialect in
    let end = excess_fault-done m b plan.projection.width left behind.now (added.left_is (all_read plan judged)) added.behind_is done in (
      first_fault-excess plan b before now left count added ∙ ap (λ t. excess_fault t plan.projection.width (row_at m b)) judged ∙ end.0,
      end.1,
    )

-- and one with more fields has that fault
pub row-excess : (plan : RangePlan) (b : List ℕ) (before now : List BufferValue) (left : RowRest) (wrong : RowFault) → length plan.projection.places.now ≡ length before
    → HasAddedCells plan b before now left → IsRowEnd plan left (Err wrong)
    → IsRowFault wrong (first_fault (rules_of plan) (plan_columns plan before) (row_at (marks_of plan.dialect) b))
row-excess plan b before now left wrong count added (judged, more, is) =
    let m = marks_of plan.dialect in
    let first = first_fault-excess plan b before now left count added ∙ ap (λ t. excess_fault t plan.projection.width (row_at m b)) judged
    ∙ excess_fault-more m b plan.projection.width left (added.left_is (all_read plan judged)) added.behind_is more in
    rw is first
