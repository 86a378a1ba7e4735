-- The first records of groups.
use Rattle.std.proofs.Common.{◌≡◌, ℕ, zero, suc, ◌+◌, ◌*◌, ◌-◌, ◌<◌, ◌≤◌, inl, inr, List, [], ◌∷◌, ◌++◌, map, length, get_or, slice_index, refl, sym, ap, ◌∙◌, arith}
use Rattle.std.proofs.Math.Nat.{suc-mul, mul-le-mul_right}
use Rattle.std.proofs.Math.ListN.{get_or-append}
use Rattle.std.proofs.Math.Seq.{get_or-append_seam}
use Rattle.std.proofs.lemmas.Bool.{cases_lt}
use Rattle.std.proofs.lemmas.Grind.{div_ceil_times}
use Rattle.std.proofs.lemmas.List.{length-append}
use Rattle.std.proofs.lemmas.List.FromFn.{map-range_with_len_more, get_or-map-range_with_len, length-map-range_with_len}
use Rattle.std.specs.Int.{div_ceil}
use Rattle.std.specs.List.{range_with_len}
use Rattle.pl_seek.specs.Index.{ArePlaces}
use Rattle.pl_seek.specs.Places.{group_places}

-- ---- numbers

pub times_less : (c g e : ℕ) → c < g → c * e + e ≤ g * e
times_less c g e h = let up : suc c * e ≤ g * e = mul-le-mul_right e h in omega (arith, up, suc-mul c e)

-- so many groups have so many records, but for fewer than one of them
pub ceil_is : (g e n w : ℕ) → 0 < e → g * e ≡ n + w → w < e → div_ceil n e ≡ g
ceil_is g e n w some all few =
    let c = div_ceil n e in
    let bounds = div_ceil_times n e some in
    elim (cases_lt c g) [
      | inl less ↦ absurd (let up = times_less c g e less in omega (arith, up, bounds.0, bounds.1, all, few))
      | inr most ↦ elim (cases_lt g c) [
        | inl more ↦ absurd (let up = times_less g c e more in omega (arith, up, bounds.0, bounds.1, all, few))
        | inr least ↦ omega (arith, most, least)
      ]
    ]

-- each of them has a first record
pub first_inside : (k g e n w : ℕ) → k < g → g * e ≡ n + w → w < e → k * e < n
first_inside k g e n w less all few = let up = times_less k g e less in omega (arith, up, all, few)

pub ceil_inside : (k e n : ℕ) → 0 < e → k < div_ceil n e → k * e < n
ceil_inside k e n some less =
    let bounds = div_ceil_times n e some in
    let up = times_less k (div_ceil n e) e less in
    omega (arith, up, bounds.1)

-- ---- one more record

same_map : (f h : ℕ → ℕ) (a n : ℕ) → ((k : ℕ) → a ≤ k → k < a + n → f k ≡ h k) → map f (range_with_len a n) ≡ map h (range_with_len a n)
same_map f h a zero same = refl
same_map f h a (suc n) same =
    ap (λ y. y ∷ map f (range_with_len (a + 1) n)) (same a (omega arith) (omega arith))
    ∙ ap (λ ys. h a ∷ ys) (same_map f h (a + 1) n (λ k from below. same k (omega arith) (omega arith)))

abbrev pub firsts : ℕ → List ℕ → ℕ → ℕ
firsts every places group = get_or places (group * every) 0

module _ (every groups wait place : ℕ) (seen : List ℕ) (some : 0 < every) (all : groups * every ≡ length seen + wait) (few : wait < every) where
  front : map (firsts every (seen ++ place ∷ [])) (range_with_len 0 groups) ≡ group_places every seen
  front =
      same_map (firsts every (seen ++ place ∷ [])) (firsts every seen) 0 groups (λ k from below.
      get_or-append seen (place ∷ []) 0 (k * every) (first_inside k groups every (length seen) wait (omega arith) all few))
      ∙ ap (λ g. map (firsts every seen) (range_with_len 0 g)) (sym (ceil_is groups every (length seen) wait some all few))

  size : length (seen ++ place ∷ []) ≡ length seen + 1
  size = length-append seen (place ∷ [])

  -- one that begins a group
  pub groups-first : wait ≡ 0 → group_places every (seen ++ place ∷ []) ≡ group_places every seen ++ place ∷ []
  groups-first none =
      let next : div_ceil (length (seen ++ place ∷ [])) every ≡ groups + 1 =
      ceil_is (groups + 1) every (length (seen ++ place ∷ [])) (every - 1) some (let up = suc-mul groups every in omega (arith, up, size, all, none, some)) (omega arith) in
      let here : firsts every (seen ++ place ∷ []) groups ≡ place =
      ap (λ k. get_or (seen ++ place ∷ []) k 0) (omega (arith, all, none)) ∙ get_or-append_seam seen place [] 0 in
      ap (λ g. map (firsts every (seen ++ place ∷ [])) (range_with_len 0 g)) next
      ∙ map-range_with_len_more (firsts every (seen ++ place ∷ [])) 0 groups groups (omega arith)
      ∙ ap (λ ps. ps ++ firsts every (seen ++ place ∷ []) groups ∷ []) front
      ∙ ap (λ p. group_places every seen ++ p ∷ []) here

  -- one that does not
  pub groups-other : 0 < wait → group_places every (seen ++ place ∷ []) ≡ group_places every seen
  groups-other more =
      let next : div_ceil (length (seen ++ place ∷ [])) every ≡ groups =
      ceil_is groups every (length (seen ++ place ∷ [])) (wait - 1) some (omega (arith, size, all, more)) (omega arith) in
      ap (λ g. map (firsts every (seen ++ place ∷ [])) (range_with_len 0 g)) next ∙ front

-- ---- places that rise

-- places from one on, each behind the one before it
abbrev pub Rise : ℕ → List ℕ → Type 0
Rise from [] = Unit {0}
Rise from (place ∷ places) = (from ≤ place) × Rise (place + 1) places

pub rise-from : (from other : ℕ) (places : List ℕ) → from ≤ other → Rise other places → Rise from places
rise-from from other [] less rise = tt
rise-from from other (place ∷ places) less rise = (omega (arith, less, rise.0), rise.1)

rise-at : (from : ℕ) (places : List ℕ) (k : ℕ) → k < length places → Rise from places → from ≤ get_or places k 0
rise-at from [] k inside rise = absurd (omega arith)
rise-at from (place ∷ places) zero inside rise = rise.0
rise-at from (place ∷ places) (suc k) inside rise = let more = rise-at (place + 1) places k (omega arith) rise.1 in omega (arith, more, rise.0)

pub rise-less : (from : ℕ) (places : List ℕ) (i j : ℕ) → i < j → j < length places → Rise from places → get_or places i 0 < get_or places j 0
rise-less from [] i j less inside rise = absurd (omega arith)
rise-less from (place ∷ places) zero zero less inside rise = absurd (omega arith)
rise-less from (place ∷ places) zero (suc j) less inside rise = let more = rise-at (place + 1) places j (omega arith) rise.1 in omega (arith, more)
rise-less from (place ∷ places) (suc i) zero less inside rise = absurd (omega arith)
rise-less from (place ∷ places) (suc i) (suc j) less inside rise = rise-less (place + 1) places i j (omega arith) (omega arith) rise.1

-- the first records of groups of such places
pub are_places : (every from : ℕ) (places : List ℕ) → 0 < every → Rise from places → ArePlaces every (length places) (group_places every places)
are_places every from places some rise =
    let n = div_ceil (length places) every in
    let size = length-map-range_with_len (firsts every places) 0 n in
    let at : (k : ℕ) → k < n → slice_index (group_places every places) k ≡ firsts every places k =
    (λ k inside. index_is (group_places every places) k (omega (arith, size, inside)) ∙ get_or-map-range_with_len (firsts every places) 0 n k k 0 inside (omega arith)) in (
      some,
      size,
      λ k inside.
          let next : k + 1 < n = omega (arith, size, inside) in
          let up = times_less k (k + 1) every (omega arith) in
          let rises = rise-less from places (k * every) ((k + 1) * every) (omega (arith, up, some)) (ceil_inside (k + 1) every (length places) some next) rise in
          rw (at k (omega (arith, next)), at (k + 1) next) rises,
    )
  where
    index_is : (xs : List ℕ) (k : ℕ) → k < length xs → slice_index xs k ≡ get_or xs k 0
    index_is [] k inside = absurd (omega arith)
    index_is (x ∷ xs) zero inside = refl
    index_is (x ∷ xs) (suc k) inside = index_is xs k (omega arith)

-- ---- places behind the last one

pub ceil-rises : (a b e : ℕ) → 0 < e → a ≤ b → div_ceil a e ≤ div_ceil b e
ceil-rises a b e some less = elim (cases_lt (div_ceil b e) (div_ceil a e)) [
  | inl down ↦ absurd (let up = times_less (div_ceil b e) (div_ceil a e) e down in omega (arith, up, (div_ceil_times a e some).1, (div_ceil_times b e some).0, less))
  | inr right ↦ right
]
