-- Where two scans stand behind a byte, by the row of that byte; and that each byte has its row.
use Rattle.std.proofs.Common.{◌≡◌, ◌≢◌, ℕ, ◌+◌, ◌<◌, Bool, true, false, cond, ◌&&◌, ◌||◌, ◌==◌, List, [], ◌∷◌, get_or, set, length, replicate, refl, ap, ◌∙◌, arith, w8}
use Rattle.std.proofs.lemmas.Bool.Decides.{nat_tests}
use Rattle.std.proofs.lemmas.List.{get_or-set_same, get_or-set_other, length-set}
use Rattle.std.proofs.lemmas.Simd.{swz_l}
use mir.Val.{zeroes}
use Rattle.pl_scan.specs.declared.spots.Spot.{Spot}
use Rattle.pl_scan.specs.declared.spots.Spot.TheVariants.{Begin, Plain, Odd, Even}
use Rattle.pl_scan.specs.SpotRows.{number_of, row_of}
use Rattle.pl_scan.specs.Spots.{spot_on}

-- the numbers of two spots in a vector
abbrev pub numbers : Spot → Spot → List ℕ
numbers s t = number_of s ∷ replicate 15 (number_of t)

-- one place of it
place : (s : Spot) (stop quote : Bool) → (stop && quote) ≡ false → cond (zeroes 16 w8 (number_of s)) 0 (get_or (row_of stop quote) (0 + number_of s) 0) ≡ number_of (spot_on s stop quote)
place s true true apart = absurd (cc)
place Begin true false _ = refl
place Begin false true _ = refl
place Begin false false _ = refl
place Plain true false _ = refl
place Plain false true _ = refl
place Plain false false _ = refl
place Odd true false _ = refl
place Odd false true _ = refl
place Odd false false _ = refl
place Even true false _ = refl
place Even false true _ = refl
place Even false false _ = refl

pub row-step : (s t : Spot) (stop quote : Bool) → (stop && quote) ≡ false → swz_l w8 16 (row_of stop quote) 0 (numbers s t) ≡ numbers (spot_on s stop quote) (spot_on t stop quote)
row-step s t stop quote apart = λ j. place s stop quote apart j ∷ replicate 15 (place t stop quote apart j)

-- ---- a row for each byte

-- rows into which one is put
pub put-row : (rows : List (List ℕ)) (i x : ℕ) (row : List ℕ) → x < length rows → get_or (set rows i row) x [] ≡ cond (x == i) row (get_or rows x [])
put-row rows i x row h = by_test (x == i) refl
  where
    by_test : (t : Bool) → (x == i) ≡ t → get_or (set rows i row) x [] ≡ cond t row (get_or rows x [])
    by_test true is = let same : x ≡ i = grind (arith, nat_tests) in ap (λ k. get_or (set rows i row) k []) same ∙ get_or-set_same rows i row [] (omega (arith, same))
    by_test false is = let other : x ≢ i = grind (arith, nat_tests) in get_or-set_other rows i x row [] other

-- those of the separator and the line end are put in last
pub stop-rows : (rows : List (List ℕ)) (separator line_end x : ℕ) (quote : Bool) → x < length rows → get_or rows x [] ≡ row_of false quote
    → get_or (set (set rows separator (row_of true quote)) line_end (row_of true quote)) x [] ≡ row_of (x == separator || x == line_end) quote
stop-rows rows separator line_end x quote h is =
    put-row (set rows separator (row_of true quote)) line_end x (row_of true quote) (omega (arith, length-set rows separator (row_of true quote)))
    ∙ ap (cond (x == line_end) (row_of true quote)) (put-row rows separator x (row_of true quote) h ∙ ap (cond (x == separator) (row_of true quote)) is)
    ∙ either (x == separator) (x == line_end)
  where
    either : (s e : Bool) → cond e (row_of true quote) (cond s (row_of true quote) (row_of false quote)) ≡ row_of (s || e) quote
    either true true = refl
    either true false = refl
    either false true = refl
    either false false = refl
