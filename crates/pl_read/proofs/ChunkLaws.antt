-- The columns of a range are a frame.
use Rattle.std.proofs.Common.{ℕ, zero, suc, ◌+◌, ◌<◌, ◌≤◌, List, [], ◌∷◌, length, get_or, sym, ◌∙◌, subst, arith}
use Rattle.std.specs.Prelude.{◌≢◌, AllPairs}
use Rattle.std.proofs.lemmas.List.{length-map}
use Rattle.pl_frame.specs.Frame.{IsFrame}
use Rattle.pl_frame.specs.Schema.{Entry, HaveDistinctNames}
use Rattle.pl_cells.specs.InitBuffers.{entry_at}
use Rattle.pl_rows.specs.Cells.{RowRules}
use Rattle.pl_rows.specs.Columns.{entries_in, frame_of_rows}
use Rattle.pl_rows.specs.Plan.{AreRising}
use Rattle.pl_rows.proofs.FrameLaws.{IsFrame-rows}
use Rattle.pl_table.specs.Rows.{Row}
use Rattle.pl_read.proofs.DataLaws.{name-at, pairs-map, names-entries}

-- rising places lie between their bounds
rising-above : (from width : ℕ) (places : List ℕ) → AreRising from width places → (k d : ℕ) → k < length places → (from ≤ get_or places k d) × (get_or places k d < width)
rising-above from width [] rising k d within = absurd (omega arith)
rising-above from width (place ∷ places) rising zero d within = (rising.0, rising.1)
rising-above from width (place ∷ places) rising (suc k) d within =
    let above = rising.0 in
    let deeper = rising-above (place + 1) width places rising.2 k d (omega arith) in
    (omega (arith, deeper.0, above), deeper.1)

-- and each is above those before it
rising-order : (from width : ℕ) (places : List ℕ) → AreRising from width places → (i j d : ℕ) → i < j → j < length places → (get_or places i d < get_or places j d) × (get_or places j d < width)
rising-order from width [] rising i j d below within = absurd (omega arith)
rising-order from width (place ∷ places) rising i zero d below within = absurd (omega arith)
rising-order from width (place ∷ places) rising zero (suc j) d below within =
    let deeper = rising-above (place + 1) width places rising.2 j d (omega arith) in
    (omega (arith, deeper.0), deeper.1)
rising-order from width (place ∷ places) rising (suc i) (suc j) d below within = rising-order (place + 1) width places rising.2 i j d (omega arith) (omega arith)

-- the names of a schema at rising places are distinct
apart-rising : (schema : List Entry) (places : List ℕ) → HaveDistinctNames schema → AreRising 0 (length schema) places → AllPairs (λ a b. (entry_at schema a).0 ≢ (entry_at schema b).0) places
apart-rising schema places distinct rising i j d below within e =
    let order = rising-order 0 (length schema) places rising i j d below within in
    let far : get_or places j d < length schema = order.1 in
    let less : get_or places i d < get_or places j d = order.0 in
    let near : get_or places i d < length schema = omega arith in
    distinct (get_or places i d) (get_or places j d) [] less (omega (arith, far, length-map schema (λ (entry : Entry). entry.0))) (sym (name-at schema (get_or places i d) [] near) ∙ e ∙ name-at schema (get_or places j d) [] far)

-- columns of a schema at rising places are a frame
pub IsFrame-range : (rules : RowRules) (given : List Row) (schema : List Entry) (places : List ℕ) → HaveDistinctNames schema → AreRising 0 (length schema) places → IsFrame (frame_of_rows rules (entries_in schema places) given)
IsFrame-range rules given schema places distinct rising =
    IsFrame-rows rules given (entries_in schema places)
    (subst (AllPairs (λ a b. a ≢ b)) (sym (names-entries schema places)) (pairs-map (λ place. (entry_at schema place).0) (λ a b. a ≢ b) places (apart-rising schema places distinct rising)))
