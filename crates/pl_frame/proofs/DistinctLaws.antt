-- Laws of places of which none stands twice.
use Rattle.std.proofs.Common.{◌≡◌, ◌≢◌, ℕ, false, ◌||◌, nat_eq, List, [], ◌∷◌, length, refl, sym, ◌∙◌, ap, arith, true≢false}
use Rattle.std.specs.List.{AllByRecursion, list_any}
use Rattle.std.proofs.lemmas.Bool.{or_parts, eq-eqb, ne_eqb}
use Rattle.pl_frame.specs.FrameParts.{AreDistinctPlaces}

-- where none of the places equals this one, each differs from it
pub differ_where_none : (place : ℕ) (places : List ℕ) → list_any (λ other. nat_eq other place) places ≡ false → AllByRecursion (λ other. place ≢ other) places
differ_where_none place [] none = tt
differ_where_none place (other ∷ places) none =
    let parts = or_parts (nat_eq other place) (list_any (λ other. nat_eq other place) places) none in
    (λ same. true≢false (sym (eq-eqb other place (sym same)) ∙ parts.0), differ_where_none place places parts.1)

-- where each of the places differs from this one, none equals it
pub none_where_differ : (place : ℕ) (places : List ℕ) → AllByRecursion (λ other. place ≢ other) places → list_any (λ other. nat_eq other place) places ≡ false
none_where_differ place [] differ = refl
none_where_differ place (other ∷ places) differ =
    ap (λ b. b || list_any (λ other. nat_eq other place) places) (ne_eqb other place (λ same. differ.0 (sym same))) ∙ none_where_differ place places differ.1

-- none stands twice where there is none
pub distinct_where_empty : (places : List ℕ) → length places ≡ 0 → AreDistinctPlaces places
distinct_where_empty [] none = tt
distinct_where_empty (place ∷ places) none = absurd (omega arith)
