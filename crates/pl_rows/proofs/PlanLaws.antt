-- Places of columns, and when a plan can read.
use Rattle.std.proofs.Common.{◌≡◌, ℕ, zero, suc, ◌+◌, ◌<◌, ◌≤◌, List, [], ◌∷◌, ◌++◌, length, refl, sym, ◌∙◌, ap, subst, add-one, arith}
use Rattle.std.specs.Prelude.{None}
use Rattle.std.specs.List.{range_with_len, slice_index, zip, AllByRecursion}
use Rattle.pl_frame.specs.declared.error.ComputeFault.TheVariants as compute
use Rattle.pl_frame.specs.declared.error.PolarsError.{PolarsError}
use Rattle.pl_frame.specs.declared.error.PolarsError.TheVariants as error
use Rattle.pl_cells.specs.InitBuffers.{IsTypeFault}
use Rattle.pl_cells.specs.BufferValue.{BufferValue}
use Rattle.pl_rows.specs.declared.plan.RangePlan.{RangePlan}
use Rattle.pl_rows.specs.Columns.{with_columns}
use Rattle.pl_rows.specs.Plan.{AreRising, CanRead, rules_of, plan_columns, state_types, FollowsRules}
use Rattle.pl_table.specs.Rows.{Row}
use Rattle.pl_rows.proofs.ColumnLaws.{length-with_columns, state_types-with_columns}
use Rattle.pl_rows.proofs.RuleLaws.{FollowRules-with_columns}

-- one number more
range-more : (a n : ℕ) → range_with_len a (suc n) ≡ range_with_len a n ++ (a + n) ∷ []
range-more a zero = let same : a ≡ a + 0 = omega arith in ap (λ k. k ∷ []) same
range-more a (suc n) =
    let same : a + 1 + n ≡ a + suc n = omega arith in
    ap (λ l. a ∷ l) (range-more (a + 1) n) ∙ ap (λ k. a ∷ (range_with_len (a + 1) n ++ k ∷ [])) same

pub places-more : (n : ℕ) → range_with_len 0 (n + 1) ≡ range_with_len 0 n ++ n ∷ []
places-more n = let same : 0 + n ≡ n = omega arith in rw add-one (range-more 0 n ∙ ap (λ k. range_with_len 0 n ++ k ∷ []) same)

-- where no type is at fault, memory was wanting
pub only_memory : (wrong : PolarsError) → IsTypeFault None wrong → wrong ≡ error.OutOfMemory
only_memory error.OutOfMemory is = refl
only_memory (error.ComputeError (compute.Dtype column)) is = absurd (cc)
only_memory wrong is = absurd is

-- each rising place is below the width
pub rising-below : (from width : ℕ) (places : List ℕ) → AreRising from width places → (k : ℕ) → k < length places → slice_index places k < width
rising-below from width [] rise k h = absurd (omega arith)
rising-below from width (place ∷ places) rise zero h = rise.1
rising-below from width (place ∷ places) rise (suc k) h = rising-below (place + 1) width places rise.2 k (omega arith)

-- the places from one on
pub rising-at : (from width : ℕ) (places others : List ℕ) (place : ℕ) → places ≡ place ∷ others → AreRising from width places
    → (from ≤ place) × (place < width) × AreRising (place + 1) width others
rising-at from width [] others place e rise = cc
rising-at from width (first ∷ rest) others place e rise =
    let same : first ≡ place = cc in
    let same_rest : rest ≡ others = cc in
    let all : (from ≤ first) × (first < width) × AreRising (first + 1) width rest = rise in
    subst (λ o. (from ≤ place) × (place < width) × AreRising (place + 1) width o) same_rest
    (subst (λ p. (from ≤ p) × (p < width) × AreRising (p + 1) width rest) same all)

-- a plan that can read can read on
pub CanRead-more : (plan : RangePlan) (given : List Row) (buffers now : List BufferValue) → now ≡ with_columns (rules_of plan) given plan.projection.places.now buffers → CanRead plan buffers
    → CanRead plan now
CanRead-more plan given buffers now is can =
    let rules = rules_of plan in
    let places = plan.projection.places.now in
    record {
      apart = can.apart;
      rising = can.rising;
      count = can.count ∙ sym (ap length is ∙ length-with_columns rules given places buffers can.count);
      rules = subst (λ b. AllByRecursion (FollowsRules rules) b) (sym is) (FollowRules-with_columns rules given places buffers can.rules);
      texts = can.texts;
    }

-- and reads the same columns
pub plan_columns-more : (plan : RangePlan) (given : List Row) (buffers now : List BufferValue) → now ≡ with_columns (rules_of plan) given plan.projection.places.now buffers → CanRead plan buffers
    → plan_columns plan now ≡ plan_columns plan buffers
plan_columns-more plan given buffers now is can =
    let same : state_types now ≡ state_types buffers = ap state_types is ∙ state_types-with_columns (rules_of plan) given plan.projection.places.now buffers can.count in
    ap (λ ts. record { read = zip plan.projection.places.now ts; width = plan.projection.width }) same
