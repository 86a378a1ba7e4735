-- The range of a slice.
use Rattle.std.proofs.Common.{◌≡◌, ℕ, ◌+◌, ◌/◌, ◌<◌, ◌≤◌, ◌==◌, ◌||◌, nat_le, cond, false, List, length, get_or, sym, ap, ◌∙◌, arith}
use Rattle.std.proofs.lemmas.Bool.Decides.{nat_tests}
use Rattle.std.proofs.lemmas.List.{get_or_past}
use Rattle.std.proofs.lemmas.List.FromFn.{length-map-range_with_len}
use Rattle.std.specs.Int.{div_ceil}
use Rattle.pl_seek.specs.Index.{Index}
use Rattle.pl_seek.specs.Places.{group_places}
use Rattle.pl_seek.specs.Slices.{range_in}
use Rattle.pl_seek.proofs.GroupLaws.{firsts, ceil-rises}

-- the range of a slice that ends behind all records
pub range-past : (i : Index) (all : List ℕ) (size start count begin : ℕ) → 0 < i.every → i.records ≡ length all → i.places ≡ group_places i.every all → start < i.records → 0 < count → i.records ≤ start + count
    → begin ≡ get_or i.places (start / i.every) size → (begin, size) ≡ range_in i size start count
range-past i all size start count begin some records places before more past is =
    let n = length-map-range_with_len (firsts i.every all) 0 (div_ceil (length all) i.every) in
    let rises = ceil-rises i.records (start + count) i.every some past in
    let len : length i.places ≡ div_ceil i.records i.every = ap length places ∙ n ∙ ap (λ r. div_ceil r i.every) (sym records) in
    let last : get_or i.places (div_ceil (start + count) i.every) size ≡ size = get_or_past i.places (div_ceil (start + count) i.every) size (omega (arith, len, rises)) in
    let below : nat_le i.records start ≡ false = grind (arith, nat_tests) in
    let none : (count == 0) ≡ false = grind (arith, nat_tests) in
    (λ k. (is k, sym last k)) ∙ sym (λ k. cond (below k || none k) (size, size) (get_or i.places (start / i.every) size, get_or i.places (div_ceil (start + count) i.every) size))
