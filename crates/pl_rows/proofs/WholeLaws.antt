-- The reading of the last range.
use Rattle.std.proofs.Common.{◌≡◌, ℕ, ◌+◌, Bool, true, false, cond, not, ◌||◌, List, [], ◌∷◌, refl, sym, ◌∙◌, ap, inl, inr}
use Rattle.std.specs.Prelude.{Option, None, Some, filter, ◌⊎◌}
use Rattle.pl_frame.specs.declared.error.FaultKind.{FaultKind}
use Rattle.pl_scan.specs.Closing.{have_open_end}
use Rattle.pl_scan.specs.Dialect.{marks_of}
use Rattle.pl_rows.specs.declared.plan.RangePlan.{RangePlan}
use Rattle.pl_rows.specs.declared.range.RangeEnd.{RangeEnd}
use Rattle.pl_rows.specs.declared.range.RangeEnd.TheVariants as end
use Rattle.pl_rows.specs.Cells.{RowRules}
use Rattle.pl_rows.specs.Plan.{Columns}
use Rattle.pl_rows.specs.Ranges.{rows_of, is_judged, judged_rows, end_of, sound_rows}
use Rattle.pl_rows.specs.Rows.{first_fault, first_faulty}
use Rattle.pl_table.specs.Rows.{Row}
use Rattle.pl_rows.proofs.RangeLaws.{sound_rows-more}

all_kept : {X : Type 0} (p : X → Bool) (xs : List X) → ((x : X) → p x ≡ true) → filter p xs ≡ xs
all_kept p [] each = refl
all_kept p (x ∷ xs) each = ap (λ t. cond t (x ∷ filter p xs) (filter p xs)) (each x) ∙ ap (λ l. x ∷ l) (all_kept p xs each)

-- each row of the last range is judged
pub judged-last : (plan : RangePlan) (range : List ℕ) → plan.last ≡ true → judged_rows plan range ≡ rows_of plan range
judged-last plan range last = all_kept (is_judged plan) (rows_of plan range) (λ row. ap (λ t. t || not (have_open_end (marks_of plan.dialect) row.fields)) last)

-- where no row has a fault, all rows are sound
pub sound-all : (rules : RowRules) (columns : Columns) (n : ℕ) (given : List Row) → first_faulty rules columns n given ≡ None → sound_rows rules columns given ≡ given
sound-all rules columns n [] none = refl
sound-all rules columns n (row ∷ others) none = by (first_fault rules columns row) refl none (λ e. sound-all rules columns (n + 1) others e)
  where
    by : (o : Option (ℕ × FaultKind)) → first_fault rules columns row ≡ o
        → elim o as (λ _. Option (ℕ × (ℕ × FaultKind))) [ None ↦ first_faulty rules columns (n + 1) others | Some found ↦ Some (n, found) ] ≡ None
        → (first_faulty rules columns (n + 1) others ≡ None → sound_rows rules columns others ≡ others)
        → sound_rows rules columns (row ∷ others) ≡ row ∷ others
    by None is e deeper = sound_rows-more rules columns row others is ∙ ap (λ rs. row ∷ rs) (deeper e)
    by (Some found) is e deeper = cc

-- where a range ends, by its first fault
pub none-first : (first : Option (ℕ × (ℕ × FaultKind))) (u : Bool) (given : RangeEnd) → given ≡ end_of first u → (given ≡ end.Closed) ⊎ (given ≡ end.Open) → first ≡ None
none-first None u given is either = refl
none-first (Some found) u given is (inl closed) = cc
none-first (Some found) u given is (inr passed) = cc

pub fault-first : (first : Option (ℕ × (ℕ × FaultKind))) (u : Bool) (row column : ℕ) (kind : FaultKind) → end.Fault row column kind ≡ end_of first u → first ≡ Some (row, (column, kind))
fault-first (Some found) u row column kind e =
    let same_row : row ≡ found.0 = cc in
    let same_column : column ≡ found.1.0 = cc in
    let same_kind : kind ≡ found.1.1 = cc in
    ap (λ r. Some (r, found.1)) (sym same_row) ∙ ap (λ c. Some (row, (c, found.1.1))) (sym same_column) ∙ ap (λ k. Some (row, (column, k))) (sym same_kind)
fault-first None true row column kind e = cc
fault-first None false row column kind e = cc
