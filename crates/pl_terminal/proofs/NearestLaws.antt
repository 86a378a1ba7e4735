-- The nearest word so far.
use Rattle.std.proofs.Common.{◌≡◌, ℕ, ◌+◌, ◌<◌, ◌≤◌, ◌⊎◌, List, Option, None, Some, MatchOption, refl, arith, ⊎_elim, inl, inr}
use Rattle.std.proofs.lemmas.Bool.{cases_lt}
use Rattle.pl_terminal.specs.Nearest.{distance_at, IsNearestOrNone}

-- among so many words, with how far the nearest is
pub record IsSearched (word : List ℕ) (words : List (List ℕ)) (few least count : ℕ) (found : Option ℕ) : Type 0 where
  pub far : MatchOption found (least ≡ few) (λ place. least ≡ distance_at word words place)
  pub is : IsNearestOrNone word words few count found

-- among none
pub search_begins : (word : List ℕ) (words : List (List ℕ)) (few : ℕ) → IsSearched word words few few 0 None
search_begins word words few = record { far = refl; is = λ k l. absurd (omega (arith, l)) }

-- a number below the next one is below it, or is it
below_next : (k count : ℕ) → k < count + 1 → (k < count) ⊎ (k ≡ count)
below_next k count l = ⊎_elim (λ less. inl less) (λ more. inr (omega arith)) (cases_lt k count)

-- a word that is no nearer
pub search_keeps : (word : List ℕ) (words : List (List ℕ)) (few least count changes : ℕ) (found : Option ℕ) → changes ≡ distance_at word words count → least ≤ changes
    → IsSearched word words few least count found → IsSearched word words few least (count + 1) found
search_keeps word words few least count changes None e l s = record {
  far = s.far;
  is = λ k b. ⊎_elim (λ less. s.is k less) (λ same. rw same (grind (arith, e, l, s.far))) (below_next k count b);
}
search_keeps word words few least count changes (Some place) e l s = record {
  far = s.far;
  is = record {
    within = omega (arith, s.is.within);
    near = s.is.near;
    least = λ k b. ⊎_elim (λ less. s.is.least k less) (λ same. rw same (grind (arith, e, l, s.far))) (below_next k count b);
    first = s.is.first;
  };
}

-- a word that is nearer
pub search_finds : (word : List ℕ) (words : List (List ℕ)) (few least count changes : ℕ) (found : Option ℕ) → changes ≡ distance_at word words count → changes < least
    → IsSearched word words few least count found → IsSearched word words few changes (count + 1) (Some count)
search_finds word words few least count changes None e l s =
    let first : (k : ℕ) → k < count → distance_at word words count < distance_at word words k = λ k b. let h = s.is k b in grind (arith, e, l, s.far, h) in
    record {
      far = e;
      is = record {
        within = omega arith;
        near = grind (arith, e, l, s.far);
        least = λ k b. ⊎_elim (λ less. let h = first k less in omega (arith, h)) (λ same. rw same (omega arith)) (below_next k count b);
        first = first;
      };
    }
search_finds word words few least count changes (Some place) e l s =
    let first : (k : ℕ) → k < count → distance_at word words count < distance_at word words k = λ k b. let h = s.is.least k b in grind (arith, e, l, s.far, h) in
    record {
      far = e;
      is = record {
        within = omega arith;
        near = let n = s.is.near in grind (arith, e, l, s.far, n);
        least = λ k b. ⊎_elim (λ less. let h = first k less in omega (arith, h)) (λ same. rw same (omega arith)) (below_next k count b);
        first = first;
      };
    }
