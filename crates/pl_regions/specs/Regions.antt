-- Regions of a text that are read and printed apart (docs/workers.md, "From an input to regions").
use Rattle.std.specs.Prelude.{◌≡◌, ◌⊎◌, ℕ, ◌<◌, List, [], ◌++◌, length, map, get_or, Option, Some, IfSome, Contains, slice_index_or}
use Rattle.std.specs.Cow.{cow_slice_items}
use Rattle.std.specs.List.{concat}
use Rattle.pl_frame.specs.Schema.{Entry}
use Rattle.pl_text.specs.FrameText.{WriteOptions}
use Rattle.pl_rows.specs.declared.plan.RangePlan.{RangePlan}
use Rattle.pl_verbatim.specs.PrintedTexts.{IsFrontPrinted}
use Rattle.pl_regions.specs.declared.region.OpenRegion.{OpenRegion}
use Rattle.pl_regions.specs.declared.region.Region.{Region}

-- ---- regions

-- the lines of a region that is being read
abbrev pub lines_so_far : OpenRegion → List ℕ
lines_so_far region = concat (map cow_slice_items region.done.items) ++ region.lines.items

-- the front of a region that is being read was printed, as far as it tells
abbrev pub IsOpenPrinted : RangePlan → List Entry → WriteOptions → OpenRegion → Type 0
IsOpenPrinted plan schema o region = IsFrontPrinted plan schema o region.text.now region.end region.rows (lines_so_far region)

-- the lines of a region
abbrev pub lines_in : Region → List ℕ
lines_in region = concat (map cow_slice_items region.lines.items)

-- the front of a region was printed, as far as it tells
abbrev pub IsRegionPrinted : RangePlan → List Entry → WriteOptions → Region → Type 0
IsRegionPrinted plan schema o region = IsFrontPrinted plan schema o region.text.now region.end region.rows (lines_in region)

-- a region is that of its place among the texts of regions, and its front was printed
pub record IsRegionOf (plan : RangePlan) (schema : List Entry) (o : WriteOptions) (texts : List (List ℕ)) (region : Region) : Type 0 where
  pub inside : region.place < length texts
  pub text_is : region.text.now ≡ get_or texts region.place []
  pub printed : IsRegionPrinted plan schema o region

-- ---- places

-- each region that stands at a place is one of those that were put there, or stood there before
abbrev pub ArePut : List Region → List (Option Region) → List (Option Region) → Type 0
ArePut taken before now = (k : ℕ) (d : Option Region) → k < length before
    → IfSome (slice_index_or now k d) (λ region. ((region.place ≡ k) × Contains taken region) ⊎ (slice_index_or before k d ≡ Some region))

-- each region that stands at a place is the region of that place
abbrev pub ArePlaced : RangePlan → List Entry → WriteOptions → List (List ℕ) → List (Option Region) → Type 0
ArePlaced plan schema o texts places = (k : ℕ) (d : Option Region) → k < length places
    → IfSome (slice_index_or places k d) (λ region. (region.place ≡ k) × IsRegionOf plan schema o texts region)
