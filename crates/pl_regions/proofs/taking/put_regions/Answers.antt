use Rattle.std.proofs.Common.{rules, ◌≡◌, List, [], ◌∷◌, ◌++◌, length, set, get_or, Option, Some, sym, ◌∙◌, ap, subst, arith, inl, inr}
use Rattle.std.specs.Prelude.{◌⊎◌, Contains, IfSome}
use Rattle.std.proofs.lemmas.Bool.{cases_eq}
use Rattle.std.proofs.lemmas.List.{get_or-set_same, get_or-set_other}
use Rattle.std.proofs.lemmas.List.Elements.{Contains-append_left, Contains-push}
use Rattle.std.proofs.lemmas.Option.{IfSome_then}
use Rattle.pl_regions.specs.declared.region.Region.{Region}
use Rattle.pl_regions.specs.Regions.{ArePut}
use Rattle.pl_regions.proofs.taking.put_regions.Goals as goal

-- one more is put at its place
put-more : (taken : List Region) (before now : List (Option Region)) (region : Region) → length now ≡ length before → ArePut taken before now
    → ArePut (taken ++ region ∷ []) before (set now region.place (Some region))
put-more taken before now region size put k d inside =
    elim (cases_eq k region.place) [
      | inl here ↦
          subst (λ found. IfSome found (λ r. ((r.place ≡ k) × Contains (taken ++ region ∷ []) r) ⊎ (get_or before k d ≡ Some r)))
          (sym (ap (λ n. get_or (set now region.place (Some region)) n d) here ∙ get_or-set_same now region.place (Some region) d (omega (arith, inside, size, here))))
          (inl (sym here, Contains-push taken region))
      | inr other ↦
          subst (λ found. IfSome found (λ r. ((r.place ≡ k) × Contains (taken ++ region ∷ []) r) ⊎ (get_or before k d ≡ Some r)))
          (sym (get_or-set_other now region.place k (Some region) d other))
          (IfSome_then (get_or now k d) (put k d inside) (λ r is. elim is [
            | inl among ↦ inl (among.0, Contains-append_left taken (region ∷ []) r among.1)
            | inr stays ↦ inr stays
          ]))
    ]

pub loop-region-preserved-in-Some : goal.loop-region-preserved-in-Some
loop-region-preserved-in-Some c = record {
  len = search rules;
  put = put-more c.loop-region.yielded c.args.places.now c.loop-region.places c.in-Some.region c.loop-region.invariant.len c.loop-region.invariant.put;
}

pub loop-region-preserved : goal.loop-region-preserved
loop-region-preserved c = record {
  len = search rules;
  put = put-more c.loop-region.yielded c.args.places.now c.loop-region.places c.in-Some.region c.loop-region.invariant.len c.loop-region.invariant.put;
}
