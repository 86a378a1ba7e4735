-- Columns of a schema, as they are read.
use Rattle.std.proofs.Common.{◌≡◌, ℕ, List, [], ◌∷◌, ◌++◌, map, length, take, drop, arith, refl, sym, ◌∙◌, ap, subst}
use Rattle.std.specs.Prelude.{AllPairs, ◌≢◌}
use Rattle.std.specs.List.{zip, AllByRecursion}
use Rattle.std.proofs.lemmas.List.{length-map}
use Rattle.std.proofs.Math.Seq.{take-append_seam}
use Rattle.pl_frame.specs.Frame.{HaveHeight, IsFrame, names_of}
use Rattle.pl_frame.specs.Schema.{Entry, names_in, HaveDistinctNames}
use Rattle.pl_cells.specs.Cells.{value_of}
use Rattle.pl_cells.specs.InitBuffers.{empty_buffers, entry_at}
use Rattle.pl_cells.specs.BufferValue.{BufferValue}
use Rattle.pl_rows.specs.Cells.{RowRules, cell}
use Rattle.pl_rows.specs.Columns.{column_cells, with_columns, frame_of_rows, columns_of, entries_in, columns_in}
use Rattle.pl_frame.specs.Dialect.{AreDistinct}
use Rattle.pl_scan.specs.Dialect.{marks_of}
use Rattle.pl_cells.specs.NullValues.{HaveTexts}
use Rattle.pl_rows.specs.declared.plan.RangePlan.{RangePlan}
use Rattle.pl_rows.specs.Plan.{state_types, Columns, AreRising, CanRead, FollowsRules, rules_of, plan_columns}
use Rattle.pl_rows.specs.Ranges.{judged_rows, sound_rows, with_range, range_frame}
use Rattle.pl_cells.specs.Columns.{field_in}
use Rattle.pl_table.specs.Rows.{Row}
use Rattle.pl_rows.proofs.RuleLaws.{FollowRules-empty}

-- a list that was written back as a whole
pub written_back : {X : Type 0} (items new : List X) (n : ℕ) → length items ≡ n → length new ≡ length items → take n (new ++ drop (length new) items) ≡ new
written_back items new n full same =
    let count : n ≡ length new = omega arith in
    ap (λ k. take k (new ++ drop (length new) items)) count ∙ take-append_seam new (drop (length new) items)

-- the columns at places of a schema, read into empty buffers
pub columns_of-rows : (rules : RowRules) (given : List Row) (schema : List Entry) (places : List ℕ)
    → columns_of (with_columns rules given places (empty_buffers rules.quote_char rules.reading.encoding schema places))
    ≡ frame_of_rows rules (entries_in schema places) given
columns_of-rows rules given schema [] = refl
columns_of-rows rules given schema (place ∷ places) =
    let column = entry_at schema place in
    ap (λ l. record { name = column.0; dtype = column.1; values = column_cells rules given (place, column.1) } ∷ l) (columns_of-rows rules given schema places)

-- their types
pub types_of-empty : (rules : RowRules) (schema : List Entry) (places : List ℕ)
    → zip places (state_types (empty_buffers rules.quote_char rules.reading.encoding schema places)) ≡ map (λ place. (place, (entry_at schema place).1)) places
types_of-empty rules schema [] = refl
types_of-empty rules schema (place ∷ places) = ap (λ l. (place, (entry_at schema place).1) ∷ l) (types_of-empty rules schema places)

pub length-empty_buffers : (rules : RowRules) (schema : List Entry) (places : List ℕ) → length places ≡ length (empty_buffers rules.quote_char rules.reading.encoding schema places)
length-empty_buffers rules schema [] = refl
length-empty_buffers rules schema (place ∷ places) = omega (arith, length-empty_buffers rules schema places)

-- each column has as many cells as there are rows
pub have_height : (rules : RowRules) (given : List Row) (columns : List (ℕ × Entry)) → HaveHeight (length given) (frame_of_rows rules columns given)
have_height rules given [] = tt
have_height rules given (column ∷ others) =
    (length-map given (λ (row : Row). value_of (cell rules column.0 column.1.1 (field_in row.fields column.0))), have_height rules given others)

same_height : (rules : RowRules) (given : List Row) (columns : List (ℕ × Entry)) (n : ℕ) → n ≡ length given → HaveHeight n (frame_of_rows rules columns given)
same_height rules given columns n e = subst (λ k. HaveHeight k (frame_of_rows rules columns given)) (sym e) (have_height rules given columns)

names_of-rows : (rules : RowRules) (given : List Row) (columns : List (ℕ × Entry)) → names_of (frame_of_rows rules columns given) ≡ names_in (map (λ column. column.1) columns)
names_of-rows rules given [] = refl
names_of-rows rules given (column ∷ others) = ap (λ l. column.1.0 ∷ l) (names_of-rows rules given others)

-- columns of distinct names are a frame
pub IsFrame-rows : (rules : RowRules) (given : List Row) (columns : List (ℕ × Entry)) → HaveDistinctNames (map (λ column. column.1) columns) → IsFrame (frame_of_rows rules columns given)
IsFrame-rows rules given [] distinct = record { one_height = tt; distinct = distinct }
IsFrame-rows rules given (column ∷ others) distinct = record {
  one_height = same_height rules given (column ∷ others) _ (length-map given (λ (row : Row). value_of (cell rules column.0 column.1.1 (field_in row.fields column.0))));
  distinct = subst (AllPairs (λ a b. a ≢ b)) (sym (names_of-rows rules given (column ∷ others))) distinct;
}

-- a plan can read into empty buffers
pub CanRead-empty : (plan : RangePlan) (schema : List Entry) (buffers : List BufferValue) → buffers ≡ empty_buffers plan.dialect.quote_char plan.options.encoding schema plan.projection.places.now
    → AreDistinct (marks_of plan.dialect) → plan.projection.width ≡ length schema → AreRising 0 (length schema) plan.projection.places.now → HaveTexts plan.options.null_values (length schema)
    → CanRead plan buffers
CanRead-empty plan schema buffers is apart width rising texts =
    let places = plan.projection.places.now in
    record {
      apart = apart;
      rising = subst (λ w. AreRising 0 w places) (sym width) rising;
      count = length-empty_buffers (rules_of plan) schema places ∙ sym (ap length is);
      rules = subst (λ b. AllByRecursion (FollowsRules (rules_of plan)) b) (sym is) (FollowRules-empty (rules_of plan) schema places);
      texts = subst (λ w. HaveTexts plan.options.null_values w) (sym width) texts;
    }

-- and reads these columns
pub plan_columns-empty : (plan : RangePlan) (schema : List Entry) (buffers : List BufferValue) → buffers ≡ empty_buffers plan.dialect.quote_char plan.options.encoding schema plan.projection.places.now
    → plan.projection.width ≡ length schema → plan_columns plan buffers ≡ columns_in schema plan.projection.places.now
plan_columns-empty plan schema buffers is width =
    let places = plan.projection.places.now in
    ap (λ b. record { read = zip places (state_types b); width = plan.projection.width }) is
    ∙ ap (λ r. record { read = r; width = plan.projection.width }) (types_of-empty (rules_of plan) schema places)
    ∙ ap (λ w. record { read = map (λ place. (place, (entry_at schema place).1)) places; width = w }) width

-- what the buffers then are
pub range_frame-is : (plan : RangePlan) (schema : List Entry) (range : List ℕ) (buffers now : List BufferValue)
    → buffers ≡ empty_buffers plan.dialect.quote_char plan.options.encoding schema plan.projection.places.now → plan.projection.width ≡ length schema → now ≡ with_range plan range buffers
    → columns_of now ≡ range_frame plan schema range
range_frame-is plan schema range buffers now is width read =
    let rules = rules_of plan in
    let places = plan.projection.places.now in
    let given : Columns → List Row = λ columns. sound_rows rules columns (judged_rows plan range) in
    ap columns_of read
    ∙ ap (λ c. columns_of (with_columns rules (given c) places buffers)) (plan_columns-empty plan schema buffers is width)
    ∙ ap (λ b. columns_of (with_columns rules (given (columns_in schema places)) places b)) is
    ∙ columns_of-rows rules (given (columns_in schema places)) schema places
