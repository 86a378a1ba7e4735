-- The records of a slice are read from its range alone.
use Rattle.std.proofs.Common.{◌≡◌, ℕ, ◌+◌, ◌-◌, ◌*◌, ◌/◌, ◌%◌, ◌<◌, ◌≤◌, ◌==◌, ◌||◌, ◌⊎◌, nat_le, Bool, true, false, cond, List, [], length, take, drop, get_or, Option, refl, sym, ap, ◌∙◌, arith, inl, inr, subst, length-drop}
use Rattle.std.specs.Int.{div_ceil}
use Rattle.std.proofs.Math.Nat.{mul-le-mul_right, div-add-mod'}
use Rattle.std.proofs.lemmas.Bool.{cases_lt}
use Rattle.std.proofs.lemmas.Bool.Decides.{nat_tests}
use Rattle.std.proofs.lemmas.Grind.{div_ceil_times}
use Rattle.std.proofs.lemmas.List.{drop_all, take_all, take-take, drop-drop, drop-take, get_or-drop, get_or_past}
use Rattle.std.proofs.lemmas.List.FromFn.{get_or-map-range_with_len, length-map-range_with_len}
use Rattle.pl_frame.specs.Dialect.{Marks, AreDistinct, IsCommentPrefix}
use Rattle.pl_rows.proofs.RangeLaws.{rows-nil}
use Rattle.pl_table.specs.Rows.{Row, rows}
use Rattle.pl_seek.specs.Index.{Index}
use Rattle.pl_seek.specs.Places.{record_places, group_places}
use Rattle.pl_seek.specs.Slices.{range_in}
use Rattle.pl_seek.proofs.GroupLaws.{firsts, ceil_inside}
use Rattle.pl_seek.proofs.RecordAtLaws.{IsAt, is-at, same-count}

-- a number before the first record of a group is that of a group
group-inside : (k e n : ℕ) → 0 < e → k * e < n → k < div_ceil n e
group-inside k e n some less =
    elim (cases_lt k (div_ceil n e)) [
      | inl inside ↦ inside
      | inr past ↦ absurd (let up : div_ceil n e * e ≤ k * e = mul-le-mul_right e past in omega (arith, up, (div_ceil_times n e some).0, less))
    ]

-- the place of a group
group-at : (e k size : ℕ) (all : List ℕ) → k < div_ceil (length all) e → get_or (group_places e all) k size ≡ get_or all (k * e) 0
group-at e k size all inside = get_or-map-range_with_len (firsts e all) 0 (div_ceil (length all) e) k k size inside (omega arith)

group-past : (e k size : ℕ) (all : List ℕ) → div_ceil (length all) e ≤ k → get_or (group_places e all) k size ≡ size
group-past e k size all past = get_or_past (group_places e all) k size (omega (arith, length-map-range_with_len (firsts e all) 0 (div_ceil (length all) e), past))

-- so many of what stands first
first-of : {X : Type 0} (r count jj : ℕ) (xs : List X) → r + count ≤ jj → take count (drop r (take jj xs)) ≡ take count (drop r xs)
first-of r count jj xs fits =
    let all : jj ≡ r + (jj - r) = omega (arith, fits) in
    ap (λ k. take count (drop r (take k xs))) all ∙ ap (take count) (drop-take r (jj - r) xs) ∙ take-take count (jj - r) (drop r xs) (omega (arith, fits))

module _ (m : Marks) (comment : Option (List ℕ)) (distinct : AreDistinct m) (free : IsCommentPrefix m.line_end comment) (input b : List ℕ) (within : length b ≤ length input)
    (ends : drop (length input - length b) input ≡ b) (every : ℕ) (some : 0 < every) (start count : ℕ) where
  abbrev size : ℕ
  size = length input

  abbrev all : List ℕ
  all = record_places m comment size b

  abbrev given : List Row
  given = take count (drop start (rows m comment b))

  -- a part of the input from which these rows are read
  pub record Gives (range : ℕ × ℕ) : Type 0 where
    pub rising : range.0 ≤ range.1
    pub fits : range.1 ≤ size
    pub rows_are : take count (drop (start % every) (rows m comment (take (range.1 - range.0) (drop range.0 input)))) ≡ given

  gives-none : (length all ≤ start) ⊎ (count ≡ 0) → Gives (size, size)
  gives-none none = record {
    rising = omega arith;
    fits = omega arith;
    rows_are =
        let empty : size - size ≡ 0 = omega arith in
        ap (λ k. take count (drop (start % every) (rows m comment (take k (drop size input))))) empty
        ∙ ap (λ rs. take count (drop (start % every) rs)) (rows-nil m comment)
        ∙ ap (take count) (drop_all (start % every) [] (omega arith)) ∙ take_all count [] (omega arith) ∙ sym (by none);
  }
    where
      by : (length all ≤ start) ⊎ (count ≡ 0) → given ≡ []
      by (inl past) = ap (take count) (drop_all start (rows m comment b) (omega (arith, same-count m comment size distinct free b, past))) ∙ take_all count [] (omega arith)
      by (inr zero_is) = ap (λ n. take n (drop start (rows m comment b))) zero_is

  module _ (before : start < length all) (more : 0 < count) where
    abbrev first : ℕ
    first = start / every * every

    parts : first + start % every ≡ start
    parts = div-add-mod' start every

    found : (n : ℕ) × IsAt m comment size b first n
    found = is-at m comment size distinct free b first within (omega (arith, parts, before))

    abbrev n : ℕ
    n = found.0

    abbrev rest : List ℕ
    rest = drop n b

    begin-is : get_or (group_places every all) (start / every) size ≡ n + (size - length b)
    begin-is = group-at every (start / every) size all (group-inside (start / every) every (length all) some (omega (arith, parts, before))) ∙ found.1.place

    abbrev begin : ℕ
    begin = n + (size - length b)

    at-begin : drop begin input ≡ rest
    at-begin =
        let turned : begin ≡ (size - length b) + n = omega arith in
        ap (λ k. drop k input) turned ∙ sym (drop-drop n (size - length b) input) ∙ ap (drop n) ends

    rest-length : length rest + n ≡ length b
    rest-length = omega (arith, length-drop n b, found.1.inside)

    -- the rows from the first of the group on
    from-first : (rs : List Row) → rs ≡ drop first (rows m comment b) → take count (drop (start % every) rs) ≡ given
    from-first rs is = ap (λ l. take count (drop (start % every) l)) is ∙ ap (take count) (drop-drop (start % every) first (rows m comment b)) ∙ ap (λ k. take count (drop k (rows m comment b))) parts

    -- up to the end of the input
    gives-rest : Gives (begin, size)
    gives-rest = record {
      rising = omega (arith, rest-length, within);
      fits = omega arith;
      rows_are =
          let short : length (drop begin input) ≤ size - begin = omega (arith, length-drop begin input) in
          from-first (rows m comment (take (size - begin) (drop begin input))) (ap (rows m comment) (take_all (size - begin) (drop begin input) short ∙ at-begin) ∙ found.1.behind);
    }

    -- up to where a group begins
    gives-group : (last : ℕ) → start + count ≤ last → last < length all → Gives (begin, get_or all last 0)
    gives-group last behind inside =
        let jj : ℕ = last - first in
        let left : jj < length (record_places m comment size rest) = omega (arith, ap length found.1.places, length-drop first all, inside, parts, behind) in
        let next = is-at m comment size distinct free rest jj (omega (arith, rest-length, within)) left in
        let sum : first + jj ≡ last = omega (arith, parts, behind) in
        let place : get_or all last 0 ≡ next.0 + (size - length rest) =
        ap (λ k. get_or all k 0) (sym sum) ∙ sym (get_or-drop first all jj 0) ∙ ap (λ ps. get_or ps jj 0) (sym found.1.places) ∙ next.1.place in
        record {
          rising = omega (arith, place, rest-length, within);
          fits = omega (arith, place, rest-length, within, next.1.inside);
          rows_are =
              let long : get_or all last 0 - begin ≡ next.0 = omega (arith, place, rest-length, within) in
              ap (λ k. take count (drop (start % every) (rows m comment (take k (drop begin input))))) long
              ∙ ap (λ l. take count (drop (start % every) (rows m comment (take next.0 l)))) at-begin
              ∙ ap (λ l. take count (drop (start % every) l)) next.1.front
              ∙ first-of (start % every) count jj (rows m comment rest) (omega (arith, parts, behind))
              ∙ from-first (rows m comment rest) found.1.behind;
        }

    gives-some : Gives (get_or (group_places every all) (start / every) size, get_or (group_places every all) (div_ceil (start + count) every) size)
    gives-some =
        elim (cases_lt (div_ceil (start + count) every) (div_ceil (length all) every)) [
          | inl inside ↦
              let is = group-at every (div_ceil (start + count) every) size all inside in
              subst-ends begin-is is
              (gives-group (div_ceil (start + count) every * every) ((div_ceil_times (start + count) every some).0) (ceil_inside (div_ceil (start + count) every) every (length all) some inside))
          | inr past ↦ subst-ends begin-is (group-past every (div_ceil (start + count) every) size all past) gives-rest
        ]
      where
        subst-ends : {x y x' y' : ℕ} → x ≡ x' → y ≡ y' → Gives (x', y') → Gives (x, y)
        subst-ends p q gives = subst Gives (sym (λ i. (p i, q i))) gives

  -- the range of a slice gives its rows
  pub gives : (i : Index) → i.every ≡ every → i.records ≡ length all → i.places ≡ group_places every all → Gives (range_in i size start count)
  gives i every_is records places =
      subst Gives
      (sym (λ k. cond (nat_le (records k) start || count == 0) (size, size) (get_or (places k) (start / every_is k) size, get_or (places k) (div_ceil (start + count) (every_is k)) size)))
      (by (nat_le (length all) start) (count == 0) refl refl)
    where
      by : (t u : Bool) → nat_le (length all) start ≡ t → (count == 0) ≡ u
          → Gives (cond (nat_le (length all) start || count == 0) (size, size) (get_or (group_places every all) (start / every) size, get_or (group_places every all) (div_ceil (start + count) every) size))
      by true u p q =
          let past : length all ≤ start = grind (arith, nat_tests) in
          rw p (gives-none (inl past))
      by false true p q =
          let none : count ≡ 0 = grind (arith, nat_tests) in
          rw (p, q) (gives-none (inr none))
      by false false p q =
          let before : start < length all = grind (arith, nat_tests) in
          let more : 0 < count = grind (arith, nat_tests) in
          rw (p, q) (gives-some before more)
