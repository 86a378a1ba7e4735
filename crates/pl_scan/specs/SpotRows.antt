-- Where a scan stands in a field, by numbers: a byte leads from the number of a spot to that of the next one.
use Rattle.std.specs.Prelude.{◌≡◌, ◌<◌, ℕ, Bool, List, [], ◌∷◌, get_or, if◌then◌else◌}
use Rattle.pl_frame.specs.Dialect.{Marks, marks}
use Rattle.pl_scan.specs.declared.spots.ByteSteps.{ByteSteps}
use Rattle.pl_scan.specs.declared.spots.Spot.{Spot}
use Rattle.pl_scan.specs.declared.spots.Spot.TheVariants.{Begin, Plain, Odd, Even}
use Rattle.pl_scan.specs.Fields.{is_quote}
use Rattle.pl_scan.specs.Spots.{is_mark}

-- the number of a spot
abbrev pub number_of : Spot → ℕ
number_of Begin = 0
number_of Plain = 1
number_of Odd = 2
number_of Even = 3

-- at the number of each spot that of the next one, behind a byte that is a separator or a line end, or the quote; 16 places
abbrev pub row_of : Bool → Bool → List ℕ
row_of stop quote =
    if stop then 0 ∷ 0 ∷ 2 ∷ 0 ∷ 0 ∷ 0 ∷ 0 ∷ 0 ∷ 0 ∷ 0 ∷ 0 ∷ 0 ∷ 0 ∷ 0 ∷ 0 ∷ 0 ∷ []
    else (if quote then 2 ∷ 1 ∷ 3 ∷ 2 ∷ 0 ∷ 0 ∷ 0 ∷ 0 ∷ 0 ∷ 0 ∷ 0 ∷ 0 ∷ 0 ∷ 0 ∷ 0 ∷ 0 ∷ []
    else 1 ∷ 1 ∷ 2 ∷ 3 ∷ 0 ∷ 0 ∷ 0 ∷ 0 ∷ 0 ∷ 0 ∷ 0 ∷ 0 ∷ 0 ∷ 0 ∷ 0 ∷ 0 ∷ [])

-- the marks that steps are of
abbrev pub marks_of : ByteSteps → Marks
marks_of steps = marks steps.separator steps.quote_char steps.eol_char

-- each byte has its row
abbrev pub AreRight : ByteSteps → Type 0
AreRight steps = (x : ℕ) → x < 256 → get_or steps.rows x [] ≡ row_of (is_mark (marks_of steps) x) (is_quote steps.quote_char x)
