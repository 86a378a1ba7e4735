-- Texts that are printed while those behind them are read (docs/workers.md, "From a source to regions").
use Rattle.std.specs.Prelude.{◌≡◌, ◌+◌, ◌<◌, ◌≤◌, ℕ, List, ◌++◌, length, map, drop, Option, slice_index_or}
use Rattle.std.specs.List.{concat}
use Rattle.std.specs.Sync.OnceLock.{Named}
use Rattle.std.specs.Io.KnownBytes.{Consumes, IsAtEnd}
use Rattle.pl_frame.specs.Schema.{Entry}
use Rattle.pl_text.specs.FrameText.{WriteOptions}
use Rattle.pl_rows.specs.declared.plan.RangePlan.{RangePlan}
use Rattle.pl_verbatim.specs.PrintedTexts.{IsTextPrinted, IsFrontPrinted}
use Rattle.pl_regions.specs.Limits.{without_limit, IsDecidedBy}
use Rattle.pl_regions.specs.Printing.{IsPrinted, IsPrintedFront}
use Rattle.pl_regions.specs.Regions.{IsRegionPrinted}
use Rattle.pl_intake.specs.Intake.{HasGiven}
use Rattle.pl_intake.specs.declared.intake.Intake.{Intake}
use Rattle.pl_regions.specs.declared.kept.Kept.{Kept}
use Rattle.pl_regions.specs.declared.kept.Arrived.{Arrived}
use Rattle.pl_regions.specs.declared.printing.PrintedRows.{PrintedRows}
use Rattle.pl_regions.specs.declared.taken.Taken.{Taken}

-- ---- cells

-- a text that was taken from a cell, and its front was printed
pub record IsTaken (plan : RangePlan) (schema : List Entry) (o : WriteOptions) (cells : List Named) (taken : Taken) : Type 0 where
  pub inside : taken.region.place < length cells
  pub of : (d : Named) → taken.token.of ≡ (slice_index_or cells taken.region.place d).id
  pub text_is : taken.region.text.now ≡ taken.token.value.items
  pub printed : IsRegionPrinted plan schema o taken.region

-- ---- texts whose memory is used again

-- the lines of a text, all of it
pub record AreAllPrinted (plan : RangePlan) (schema : List Entry) (o : WriteOptions) (text : List ℕ) (kept : Kept) : Type 0 where
  pub end_is : kept.end ≡ length text
  pub is : IsTextPrinted plan schema o text kept.rows (concat (map (λ text. text.items) kept.lines.items))

-- what was printed of a text: the front of it
abbrev pub IsFrontKept : RangePlan → List Entry → WriteOptions → List ℕ → Kept → Type 0
IsFrontKept plan schema o text kept = IsFrontPrinted plan schema o text kept.end kept.rows (concat (map (λ text. text.items) kept.lines.items))

-- the lines of the front of a text, behind which these bytes are left
pub record IsPrintedUpTo (plan : RangePlan) (schema : List Entry) (o : WriteOptions) (text left : List ℕ) (kept : Kept) : Type 0 where
  pub front : List ℕ
  pub is : AreAllPrinted plan schema o front kept
  pub are : text ≡ front ++ left

-- what came of a source, behind what was kept of it before, and is not kept: these are the lines of it
pub record HasPrinted (plan : RangePlan) (schema : List Entry) (o : WriteOptions) (before now : Option (List ℕ)) (limit : ℕ) (intake next : Intake) (kept : Kept) : Type 0 where
  pub text : List ℕ
  pub given : HasGiven before now limit intake next text
  pub is : AreAllPrinted plan schema o text kept

-- what came of a source, behind what was kept of it before, and is not kept: these are the lines of its front, and behind that stand what is left of
-- a text and the texts that were handed out
pub record HasInLine (plan : RangePlan) (schema : List Entry) (o : WriteOptions) (before now : Option (List ℕ)) (limit : ℕ) (intake next : Intake) (kept : Kept) (left : List ℕ) (pending : List (List ℕ)) : Type 0 where
  pub text : List ℕ
  pub given : HasGiven before now limit intake next text
  pub is : IsPrintedUpTo plan schema o text (left ++ concat pending) kept

-- ---- what came of a source

-- a text that decides about data was printed in front, without a limit, and this is left of it
pub record IsFrontArrived (plan : RangePlan) (schema : List Entry) (o : WriteOptions) (records : List ℕ) (arrived : Arrived) : Type 0 where
  pub text : List ℕ
  pub within : length text ≤ length records
  pub decides : IsDecidedBy plan schema o records text
  pub printed : IsPrintedFront (without_limit plan) schema o text arrived.front
  pub left_is : arrived.left.items ≡ drop arrived.front.end text

-- All bytes that were left of a source came. A front of these bytes, behind those that were kept, was printed, and what matters is left of them.
pub record HasAllCome (plan : RangePlan) (schema : List Entry) (o : WriteOptions) (before now : Option (List ℕ)) (limit : ℕ) (intake : Intake) (arrived : Arrived) : Type 0 where
  pub bytes : List ℕ
  pub came : Consumes before now bytes
  pub end : IsAtEnd now
  pub within : intake.size + length bytes ≤ limit
  pub is : IsFrontArrived plan schema o (intake.rest.items ++ bytes) arrived

-- All bytes that were left of a source came. The rows of these bytes, behind those that were kept, were printed.
pub record HasArrived (plan : RangePlan) (schema : List Entry) (o : WriteOptions) (before now : Option (List ℕ)) (limit : ℕ) (intake : Intake) (printed : PrintedRows) : Type 0 where
  pub bytes : List ℕ
  pub came : Consumes before now bytes
  pub end : IsAtEnd now
  pub within : intake.size + length bytes ≤ limit
  pub is : IsPrinted plan schema o (intake.rest.items ++ bytes) printed
