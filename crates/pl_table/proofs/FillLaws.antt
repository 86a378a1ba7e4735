-- How the vectors of an index are filled, block by block.
use Rattle.std.proofs.Common.{◌≡◌, ℕ, ◌+◌, ◌≤◌, List, ◌++◌, map, length, take, drop, bit_and, sym, ap, ◌∙◌, arith, append_assoc, length-append}
use Rattle.std.specs.Simd.Lanes.{mask_l}
use Rattle.std.proofs.lemmas.List.{take_at, length-take-le, map-append, length-map}
use Rattle.pl_frame.specs.Dialect.{Marks}
use Rattle.pl_table.specs.declared.block.Spot.{Spot}
use Rattle.pl_table.specs.Ends.{spot_behind, end_flags, line_flags}
use Rattle.pl_scan.specs.Bits.{set_bits}
use Rattle.pl_table.specs.Entries.{End, entries, place_behind, row_ends, counts}
use Rattle.pl_table.proofs.EntryLaws.{set_bits-are, counts-are, entries-append, row_ends-append}

-- what a vector holds once a slice of all of it was written
pub written-back : (items out : List ℕ) (len : ℕ) → len ≡ length out → take len (out ++ drop (length out) items) ≡ out
written-back items out len e = take_at out (drop (length out) items) len (sym e)

pub length-places : (es : List End) → length (map place_behind es) ≡ length es
length-places es = length-map es place_behind

-- no more stands in front than in all
pub few-front : (k : ℕ) (l left all : List ℕ) → k ≤ length l → take k l ++ left ≡ all → k ≤ length all
few-front k l left all fits e = omega (arith, ap length e, length-append (take k l) left, length-take-le k l fits)

-- a block
module _ (m : Marks) (at : Spot) (place : ℕ) (piece others : List ℕ) (few : length piece ≤ 64) (E L : ℕ) (behind : Spot)
    (ends : E ≡ mask_l (end_flags m at piece)) (lines : L ≡ mask_l (line_flags m piece)) (spot : behind ≡ spot_behind m at piece) where
  later : entries m at place piece ++ entries m behind (place + length piece) others ≡ entries m at place (piece ++ others)
  later = ap (λ s. entries m at place piece ++ entries m s (place + length piece) others) spot ∙ sym (entries-append m at place piece others)

  places-are : set_bits 64 (place + 1) E ≡ map place_behind (entries m at place piece)
  places-are = ap (set_bits 64 (place + 1)) ends ∙ set_bits-are m 64 at place piece few

  pub starts-step : (fields more : ℕ) (S slice N : List ℕ) → take (fields + 1 + more) N ≡ take (fields + 1) slice ++ set_bits 64 (place + 1) E → take (fields + 1) slice ≡ take (fields + 1) S
      → take (fields + more + 1) N ++ map place_behind (entries m behind (place + length piece) others) ≡ take (fields + 1) S ++ map place_behind (entries m at place (piece ++ others))
  starts-step fields more S slice N written same =
      let rest = map place_behind (entries m behind (place + length piece) others) in
      let n : fields + more + 1 ≡ fields + 1 + more = omega arith in
      ap (λ k. take k N ++ rest) n ∙ ap (λ (l : List ℕ). l ++ rest) (written ∙ (λ j. same j ++ places-are j))
      ∙ append_assoc (take (fields + 1) S) (map place_behind (entries m at place piece)) rest
      ∙ ap (λ (l : List ℕ). take (fields + 1) S ++ l) (sym (map-append place_behind (entries m at place piece) (entries m behind (place + length piece) others)) ∙ ap (map place_behind) later)

  pub rows-step : (fields more count found : ℕ) (F slice N : List ℕ) → more ≡ length (set_bits 64 (place + 1) E)
      → take (count + 1 + found) N ≡ take (count + 1) slice ++ counts 64 fields E (bit_and E L) → take (count + 1) slice ≡ take (count + 1) F
      → take (count + found + 1) N ++ row_ends (fields + more) (entries m behind (place + length piece) others) ≡ take (count + 1) F ++ row_ends fields (entries m at place (piece ++ others))
  rows-step fields more count found F slice N long written same =
      let rest = row_ends (fields + more) (entries m behind (place + length piece) others) in
      let n : count + found + 1 ≡ count + 1 + found = omega arith in
      let all : more ≡ length (entries m at place piece) = long ∙ ap length places-are ∙ length-places (entries m at place piece) in
      let held : counts 64 fields E (bit_and E L) ≡ row_ends fields (entries m at place piece) = (λ j. counts 64 fields (ends j) (bit_and (ends j) (lines j))) ∙ counts-are m 64 at place fields piece few in
      ap (λ k. take k N ++ rest) n ∙ ap (λ (l : List ℕ). l ++ rest) (written ∙ (λ j. same j ++ held j))
      ∙ append_assoc (take (count + 1) F) (row_ends fields (entries m at place piece)) rest
      ∙ ap (λ (l : List ℕ). take (count + 1) F ++ l) (ap (λ k. row_ends fields (entries m at place piece) ++ row_ends (fields + k) (entries m behind (place + length piece) others)) all
      ∙ sym (row_ends-append fields (entries m at place piece) (entries m behind (place + length piece) others)) ∙ ap (row_ends fields) later)
