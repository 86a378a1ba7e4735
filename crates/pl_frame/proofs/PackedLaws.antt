-- Laws of texts in no more memory than they need.
use Rattle.std.proofs.Common.{◌≡◌, ℕ, zero, suc, ◌+◌, ◌-◌, ◌<◌, ◌≤◌, Bool, true, false, ◌&&◌, if◌then◌else◌, List, [], ◌∷◌, length, take, drop, get_or, slice_get, Some, None, IsUtf8, refl, sym, ◌∙◌, ap, subst, arith}
use Rattle.std.specs.List.{list_all}
use Rattle.std.proofs.lemmas.List.{get_or_default}
use Rattle.std.proofs.lemmas.Option.{get_or_from_slice_get}
use Rattle.pl_frame.specs.Flags.{marked, AreMarked}
use Rattle.pl_frame.specs.Optional.{flagged, parts_between, RiseTo, AreTexts}
use Rattle.pl_frame.specs.Packed.{ArePacked, needed}
use Rattle.pl_frame.proofs.FlagLaws.{length-marked, slice_get-marked_value, slice_get-marked_null, slice_get-marked_past, nulls-marked}
use Rattle.pl_frame.proofs.OptionalLaws.{length-parts_between, RiseTo-at, AllUtf8-at, part_at}

-- flags of which all are kept mean the same in both ways
pub marked-flagged : {X : Type 0} (xs : List X) (flags : List Bool) → length xs ≡ length flags → marked xs flags ≡ flagged xs flags
marked-flagged [] flags h = refl
marked-flagged (x ∷ xs) [] h = absurd (omega arith)
marked-flagged (x ∷ xs) (f ∷ fs) h = ap (λ rest. (if f then Some x else None) ∷ rest) (marked-flagged xs fs (omega arith))

-- and so do none, where all are set
marked-all : {X : Type 0} (xs : List X) (flags : List Bool) → length xs ≡ length flags → list_all (λ flag. flag) flags ≡ true → marked xs [] ≡ flagged xs flags
marked-all [] flags h all = refl
marked-all (x ∷ xs) [] h all = absurd (omega arith)
marked-all (x ∷ xs) (true ∷ fs) h all = ap (λ rest. Some x ∷ rest) (marked-all xs fs (omega arith) all)
marked-all (x ∷ xs) (false ∷ fs) h all = absurd (cc)

pub marked-needed : {X : Type 0} (xs : List X) (flags : List Bool) → length xs ≡ length flags → marked xs (needed flags) ≡ flagged xs flags
marked-needed xs flags h = by (list_all (λ flag. flag) flags) refl
  where
    by : (b : Bool) → list_all (λ flag. flag) flags ≡ b → marked xs (if b then [] else flags) ≡ flagged xs flags
    by true e = marked-all xs flags h e
    by false e = marked-flagged xs flags h

pub packed_same : (bytes ends : List ℕ) (flags : List Bool) → AreTexts bytes ends flags →
    marked (parts_between 0 ends bytes) (needed flags) ≡ flagged (parts_between 0 ends bytes) flags
packed_same bytes ends flags t = marked-needed (parts_between 0 ends bytes) flags (length-parts_between 0 ends bytes ∙ t.one_length)

-- the text at a place
module _ (bytes ends : List ℕ) (flags : List Bool) (i begin end : ℕ) (t : ArePacked bytes ends flags) (l : i < length ends) (b : begin ≡ get_or (0 ∷ ends) i 0) (e : end ≡ get_or ends i end) where
  pub packed_utf8 : IsUtf8 (take (end - begin) (drop begin bytes))
  packed_utf8 = AllUtf8-at (parts_between 0 ends bytes) i _ t.utf8 (part_at bytes ends i begin end l b e)

  pub packed_ordered : (begin ≤ end) × (end ≤ length bytes)
  packed_ordered =
      let at = RiseTo-at 0 ends (length bytes) i t.rising l in
      let end_is : end ≡ get_or ends i 0 = e ∙ get_or_default ends i end 0 l in
      let first = at.0 in let second = at.1 in (omega (arith, first, b, end_is), omega (arith, second, end_is))

  text_there : take (end - begin) (drop begin bytes) ≡ get_or (parts_between 0 ends bytes) i (take (end - begin) (drop begin bytes))
  text_there = sym (get_or_from_slice_get (parts_between 0 ends bytes) i _ _ (part_at bytes ends i begin end l b e))

  within : i < length (parts_between 0 ends bytes)
  within = let size = length-parts_between 0 ends bytes in omega (arith, size, l)

  pub packed_past : length flags ≤ i → slice_get (marked (parts_between 0 ends bytes) flags) i ≡ Some (Some (take (end - begin) (drop begin bytes)))
  packed_past h = slice_get-marked_past (parts_between 0 ends bytes) flags i _ within h text_there

  pub packed_set : (f : Bool) → i < length flags → f ≡ get_or flags i f → f ≡ true → slice_get (marked (parts_between 0 ends bytes) flags) i ≡ Some (Some (take (end - begin) (drop begin bytes)))
  packed_set f h g set = slice_get-marked_value (parts_between 0 ends bytes) flags i _ f within h text_there g set

-- an end is no further on than the last
pub end_within : (ends : List ℕ) (last i : ℕ) → RiseTo 0 ends last → i < length ends → get_or ends i 0 ≤ last
end_within ends last i h l = let at = RiseTo-at 0 ends last i h l in let second = at.1 in omega arith

pub ruleset packed = (length-parts_between, length-marked, nulls-marked, slice_get-marked_null)
