-- Buffers that read by the rules, and columns that have their null texts.
use Rattle.std.proofs.Common.{◌≡◌, ℕ, zero, suc, List, [], ◌∷◌, drop, refl, subst}
use Rattle.pl_frame.specs.Schema.{Entry}
use Rattle.pl_cells.specs.BufferValue.{BufferValue}
use Rattle.pl_cells.specs.InitBuffers.{empty_buffers}
use Rattle.pl_rows.specs.Cells.{RowRules}
use Rattle.pl_rows.specs.Columns.{with_columns}
use Rattle.pl_rows.specs.Plan.{FollowsRules, FollowRules}
use Rattle.pl_table.specs.Rows.{Row}

-- the buffer at a place does
pub FollowsRules-at : (rules : RowRules) (given : List BufferValue) (i : ℕ) (buffer : BufferValue) (others : List BufferValue) → FollowRules rules given → drop i given ≡ buffer ∷ others
    → FollowsRules rules buffer
FollowsRules-at rules [] zero buffer others follow at = absurd (cc)
FollowsRules-at rules [] (suc i) buffer others follow at = absurd (cc)
FollowsRules-at rules (first ∷ given) zero buffer others follow at = let same : first ≡ buffer = cc in subst (FollowsRules rules) same follow.0
FollowsRules-at rules (first ∷ given) (suc i) buffer others follow at = FollowsRules-at rules given i buffer others follow.1 at

-- cells change nothing of that
pub FollowRules-with_columns : (rules : RowRules) (given : List Row) (places : List ℕ) (buffers : List BufferValue) → FollowRules rules buffers → FollowRules rules (with_columns rules given places buffers)
FollowRules-with_columns rules given [] buffers follow = tt
FollowRules-with_columns rules given (place ∷ places) [] follow = tt
FollowRules-with_columns rules given (place ∷ places) (buffer ∷ others) follow = (follow.0, FollowRules-with_columns rules given places others follow.1)

-- the buffers that a reader begins with do
pub FollowRules-empty : (rules : RowRules) (schema : List Entry) (places : List ℕ) → FollowRules rules (empty_buffers rules.quote_char rules.reading.encoding schema places)
FollowRules-empty rules schema [] = tt
FollowRules-empty rules schema (place ∷ places) = ((refl, refl), FollowRules-empty rules schema places)
