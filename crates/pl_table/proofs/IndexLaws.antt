-- The index of a text holds its records.
use Rattle.std.proofs.Common.{◌≡◌, ℕ, zero, suc, ◌+◌, ◌-◌, ◌<◌, ◌≤◌, Bool, true, false, cond, ◌==◌, List, [], ◌∷◌, ◌++◌, map, length, get_or, take, drop, refl, sym, ap, ap₂, ◌∙◌, arith, add-zero, append_assoc}
use Rattle.std.specs.List.{range_with_len}
use Rattle.std.proofs.lemmas.List.{drop-drop, get_or-drop, take-append-drop, length-map, length-take-le}
use Rattle.std.proofs.lemmas.List.FromFn.{map-range_with_len_more}
use Rattle.pl_frame.specs.Dialect.{Marks}
use Rattle.pl_table.specs.declared.block.Spot.{Spot}
use Rattle.pl_table.specs.Ends.{ends_field, next_spot}
use Rattle.pl_table.specs.Entries.{End, end_at, entries, place_behind, row_ends}
use Rattle.pl_table.specs.Tables.{Cut, IsWithin, AreWithin}
use Rattle.pl_table.specs.Index.{cut_at, row_cuts, table_of, IsIndex}
use Rattle.pl_table.proofs.RowLaws.{onto_first, records_at, behind_lines}

-- fields in front of the first record, if there is one
abbrev onto_all : {X : Type 0} → List X → List (List X) → List (List X)
onto_all cs [] = []
onto_all cs (r ∷ rs) = (cs ++ r) ∷ rs

onto_all-nil : {X : Type 0} (rs : List (List X)) → onto_all [] rs ≡ rs
onto_all-nil [] = refl
onto_all-nil (r ∷ rs) = refl

onto_all-one : {X : Type 0} (cs : List X) (c : X) (rs : List (List X)) → onto_all (cs ++ c ∷ []) rs ≡ onto_all cs (onto_first c rs)
onto_all-one cs c [] = refl
onto_all-one cs c (r ∷ rs) = ap (λ l. l ∷ rs) (append_assoc cs (c ∷ []) r)

-- what stands at a place, and behind it
at-drop : (n : ℕ) (l : List ℕ) (x : ℕ) (r : List ℕ) → drop n l ≡ x ∷ r → (get_or l n 0 ≡ x) × (drop (n + 1) l ≡ r)
at-drop n l x r e = (sym (get_or-drop n l 0 0 ∙ ap (λ k. get_or l k 0) (add-zero n)) ∙ ap (λ (t : List ℕ). get_or t 0 0) e, sym (drop-drop 1 n l) ∙ ap (drop 1) e)

-- ---- the records

abbrev passed : List ℕ → ℕ → ℕ → List Cut
passed S first n = map (cut_at S) (range_with_len first (n - first))

-- where fields from a number on have passed, which belong to record j
tables : (S F : List ℕ) (start first n j : ℕ) (es : List End) (more others : List ℕ) → drop n S ≡ start ∷ (map place_behind es ++ more) → first ≤ n
    → drop j F ≡ first ∷ (row_ends n es ++ others) → map (row_cuts S F) (range_with_len j (length (row_ends n es))) ≡ onto_all (passed S first n) (records_at start es)
tables S F start first n j [] more others hs le hf = refl
tables S F start first n j (e ∷ es) more others hs le hf =
    by_last e.last hf (λ f. tables S F (place_behind e) (n + 1) (n + 1) (j + 1) es more others next (omega arith) f) (λ f. tables S F (place_behind e) first (n + 1) j es more others next (omega arith) f)
  where
    here : get_or S n 0 ≡ start
    here = (at-drop n S start _ hs).0

    next : drop (n + 1) S ≡ place_behind e ∷ (map place_behind es ++ more)
    next = (at-drop n S start _ hs).1

    c : Cut
    c = record { start = start; end = e.place }

    cut_is : cut_at S n ≡ record { start = start; end = e.place }
    cut_is =
        let behind : get_or S (n + 1) 0 ≡ e.place + 1 = (at-drop (n + 1) S (place_behind e) _ next).0 in
        let end : get_or S (n + 1) 0 - 1 ≡ e.place = omega (arith, behind) in
        (λ i. record { start = here i; end = end i })

    one_more : passed S first (n + 1) ≡ passed S first n ++ record { start = start; end = e.place } ∷ []
    one_more =
        let long : n + 1 - first ≡ (n - first) + 1 = omega arith in
        ap (λ k. map (cut_at S) (range_with_len first k)) long ∙ map-range_with_len_more (cut_at S) first (n - first) n (omega arith) ∙ ap (λ k. passed S first n ++ k ∷ []) cut_is

    by_last : (t : Bool) → drop j F ≡ first ∷ (cond t ((n + 1) ∷ row_ends (n + 1) es) (row_ends (n + 1) es) ++ others)
        → (drop (j + 1) F ≡ (n + 1) ∷ (row_ends (n + 1) es ++ others) → map (row_cuts S F) (range_with_len (j + 1) (length (row_ends (n + 1) es))) ≡ onto_all (passed S (n + 1) (n + 1)) (records_at (place_behind e) es))
        → (drop j F ≡ first ∷ (row_ends (n + 1) es ++ others) → map (row_cuts S F) (range_with_len j (length (row_ends (n + 1) es))) ≡ onto_all (passed S first (n + 1)) (records_at (place_behind e) es))
        → map (row_cuts S F) (range_with_len j (length (cond t ((n + 1) ∷ row_ends (n + 1) es) (row_ends (n + 1) es))))
        ≡ onto_all (passed S first n) (cond t ((record { start = start; end = e.place } ∷ []) ∷ records_at (place_behind e) es) (onto_first (record { start = start; end = e.place }) (records_at (place_behind e) es)))
    by_last true f inner _ =
        let from : get_or F j 0 ≡ first = (at-drop j F first _ f).0 in
        let after = (at-drop j F first _ f).1 in
        let to : get_or F (j + 1) 0 ≡ n + 1 = (at-drop (j + 1) F (n + 1) _ after).0 in
        let row : row_cuts S F j ≡ passed S first n ++ record { start = start; end = e.place } ∷ [] = (λ i. map (cut_at S) (range_with_len (from i) (to i - from i))) ∙ one_more in
        let none : n + 1 - (n + 1) ≡ 0 = omega arith in
        let others_are = inner after
        ∙ ap (λ k. onto_all (map (cut_at S) (range_with_len (n + 1) k)) (records_at (place_behind e) es)) none ∙ onto_all-nil (records_at (place_behind e) es) in
        ap₂ (λ r rs. r ∷ rs) row others_are
    by_last false f _ same =
        same f
        ∙ ap (λ cs. onto_all cs (records_at (place_behind e) es)) one_more
        ∙ onto_all-one (passed S first n) (record { start = start; end = e.place }) (records_at (place_behind e) es)

-- ---- the place behind the records

behinds : (S F : List ℕ) (s start first n j : ℕ) (es : List End) (more others : List ℕ) → drop n S ≡ start ∷ (map place_behind es ++ more)
    → drop j F ≡ first ∷ (row_ends n es ++ others) → get_or S first 0 ≡ s → get_or S (get_or F (j + length (row_ends n es)) 0) 0 ≡ behind_lines s es
behinds S F s start first n j [] more others hs hf is = ap (λ k. get_or S (get_or F k 0) 0) (add-zero j) ∙ ap (λ k. get_or S k 0) (at-drop j F first _ hf).0 ∙ is
behinds S F s start first n j (e ∷ es) more others hs hf is =
    by_last e.last hf (λ f i. behinds S F (place_behind e) (place_behind e) (n + 1) (n + 1) (j + 1) es more others next f i) (λ f. behinds S F s (place_behind e) first (n + 1) j es more others next f is)
  where
    next : drop (n + 1) S ≡ place_behind e ∷ (map place_behind es ++ more)
    next = (at-drop n S start _ hs).1

    by_last : (t : Bool) → drop j F ≡ first ∷ (cond t ((n + 1) ∷ row_ends (n + 1) es) (row_ends (n + 1) es) ++ others)
        → (drop (j + 1) F ≡ (n + 1) ∷ (row_ends (n + 1) es ++ others) → get_or S (n + 1) 0 ≡ place_behind e → get_or S (get_or F (j + 1 + length (row_ends (n + 1) es)) 0) 0 ≡ behind_lines (place_behind e) es)
        → (drop j F ≡ first ∷ (row_ends (n + 1) es ++ others) → get_or S (get_or F (j + length (row_ends (n + 1) es)) 0) 0 ≡ behind_lines s es)
        → get_or S (get_or F (j + length (cond t ((n + 1) ∷ row_ends (n + 1) es) (row_ends (n + 1) es))) 0) 0 ≡ cond t (behind_lines (place_behind e) es) (behind_lines s es)
    by_last true f inner _ =
        let after = (at-drop j F first _ f).1 in
        let place : j + suc (length (row_ends (n + 1) es)) ≡ j + 1 + length (row_ends (n + 1) es) = omega arith in
        ap (λ k. get_or S (get_or F k 0) 0) place ∙ inner after (at-drop (n + 1) S (place_behind e) _ next).0
    by_last false f _ same = same f

-- ---- the numbers of first fields rise

rising : (b n : ℕ) (es : List End) (i : ℕ) → b ≤ n → i < length (row_ends n es)
    → (get_or (b ∷ row_ends n es) i 0 ≤ get_or (row_ends n es) i 0) × (get_or (row_ends n es) i 0 ≤ n + length es)
rising b n [] i le h = absurd (omega arith)
rising b n (e ∷ es) i le h = by_last e.last i h (λ k l. rising (n + 1) (n + 1) es k (omega arith) l) (λ k l. rising b (n + 1) es k (omega arith) l)
  where
    by_last : (t : Bool) (i : ℕ) → i < length (cond t ((n + 1) ∷ row_ends (n + 1) es) (row_ends (n + 1) es))
        → ((k : ℕ) → k < length (row_ends (n + 1) es) → (get_or ((n + 1) ∷ row_ends (n + 1) es) k 0 ≤ get_or (row_ends (n + 1) es) k 0) × (get_or (row_ends (n + 1) es) k 0 ≤ n + 1 + length es))
        → ((k : ℕ) → k < length (row_ends (n + 1) es) → (get_or (b ∷ row_ends (n + 1) es) k 0 ≤ get_or (row_ends (n + 1) es) k 0) × (get_or (row_ends (n + 1) es) k 0 ≤ n + 1 + length es))
        → (get_or (b ∷ cond t ((n + 1) ∷ row_ends (n + 1) es) (row_ends (n + 1) es)) i 0 ≤ get_or (cond t ((n + 1) ∷ row_ends (n + 1) es) (row_ends (n + 1) es)) i 0)
        × (get_or (cond t ((n + 1) ∷ row_ends (n + 1) es) (row_ends (n + 1) es)) i 0 ≤ n + suc (length es))
    by_last true zero l inner _ = (omega arith, omega arith)
    by_last true (suc k) l inner _ = let r = inner k (omega arith) in (r.0, omega (arith, r.1))
    by_last false k l _ same = let r = same k l in (r.0, omega (arith, r.1))

get-front : (xs ys : List ℕ) (i : ℕ) → i < length xs → get_or (xs ++ ys) i 0 ≡ get_or xs i 0
get-front [] ys i h = absurd (omega arith)
get-front (x ∷ xs) ys zero h = refl
get-front (x ∷ xs) ys (suc i) h = get-front xs ys i (omega arith)

place-some : (es : List End) (i : ℕ) → i < length es → 0 < get_or (map place_behind es) i 0
place-some [] i h = absurd (omega arith)
place-some (e ∷ es) zero h = omega arith
place-some (e ∷ es) (suc i) h = place-some es i (omega arith)

-- ---- vectors that hold an index

module _ (S F : List ℕ) (es : List End) (n : ℕ) (starts : take (length es + 1) S ≡ 0 ∷ map place_behind es) (rows : take (n + 1) F ≡ 0 ∷ row_ends 0 es)
    (starts_fit : length es < length S) (rows_fit : n < length F) (count : n ≡ length (row_ends 0 es)) where
  S-is : S ≡ (0 ∷ map place_behind es) ++ drop (length es + 1) S
  S-is = sym (take-append-drop (length es + 1) S) ∙ ap (λ (l : List ℕ). l ++ drop (length es + 1) S) starts

  F-is : F ≡ (0 ∷ row_ends 0 es) ++ drop (n + 1) F
  F-is = sym (take-append-drop (n + 1) F) ∙ ap (λ (l : List ℕ). l ++ drop (n + 1) F) rows

  pub table-is : table_of S F n ≡ records_at 0 es
  table-is = ap (λ k. map (row_cuts S F) (range_with_len 0 k)) count ∙ tables S F 0 0 0 0 es (drop (length es + 1) S) (drop (n + 1) F) S-is (omega arith) F-is ∙ onto_all-nil (records_at 0 es)

  pub place-is : get_or S (get_or F n 0) 0 ≡ behind_lines 0 es
  place-is =
      let at : n ≡ 0 + length (row_ends 0 es) = omega (arith, count) in
      ap (λ k. get_or S (get_or F k 0) 0) at ∙ behinds S F 0 0 0 0 0 es (drop (length es + 1) S) (drop (n + 1) F) S-is F-is (ap (λ (l : List ℕ). get_or l 0 0) S-is)

  first-is : (i : ℕ) → i < n + 1 → get_or F i 0 ≡ get_or (0 ∷ row_ends 0 es) i 0
  first-is i h = ap (λ (l : List ℕ). get_or l i 0) F-is ∙ get-front (0 ∷ row_ends 0 es) (drop (n + 1) F) i (omega (arith, count))

  risen : (j : ℕ) → j < n → (get_or F j 0 ≤ get_or F (j + 1) 0) × (get_or F (j + 1) 0 ≤ length es)
  risen j h =
      let r = rising 0 0 es j (omega arith) (omega (arith, count)) in
      let low = first-is j (omega arith) in
      let high : get_or F (j + 1) 0 ≡ get_or (row_ends 0 es) j 0 = ap (λ k. get_or F k 0) (omega arith) ∙ first-is (suc j) (omega arith) in
      (omega (arith, r.0, low, high), omega (arith, r.1, high))

  -- behind the last record too
  pub last-inside : get_or F n 0 ≤ length es
  last-inside = at n refl
    where
      at : (k : ℕ) → n ≡ k → get_or F n 0 ≤ length es
      at zero e = let z : get_or F n 0 ≡ 0 = ap (λ k. get_or F k 0) e ∙ first-is 0 (omega arith) in omega arith
      at (suc k) e = let r = risen k (omega arith) in let same : get_or F n 0 ≡ get_or F (k + 1) 0 = ap (λ i. get_or F i 0) (omega arith) in omega (arith, r.1)

  start-some : (i : ℕ) → i < length es → 0 < get_or S (i + 1) 0
  start-some i h =
      let here : get_or S (i + 1) 0 ≡ get_or (map place_behind es) i 0 =
      ap (λ k. get_or S k 0) (omega arith) ∙ ap (λ (l : List ℕ). get_or l (suc i) 0) S-is ∙ get-front (map place_behind es) (drop (length es + 1) S) i (omega (arith, length-map es place_behind)) in
      let some = place-some es i h in
      omega (arith, here, some)

  pub index-is : IsIndex S F n
  index-is = record {
    rows_fit = λ h. rows_fit;
    ordered = λ j h. (risen j h).0;
    starts_fit = λ j h. (let r = risen j h in omega (arith, r.1));
    ended = λ j i h k. (let r = risen j h in start-some i (omega (arith, r.1)));
  }

-- all of it
pub record Holds (S F : List ℕ) (es : List End) (n : ℕ) : Type 0 where
  pub index : IsIndex S F n
  pub table : table_of S F n ≡ records_at 0 es
  pub place : get_or S (get_or F n 0) 0 ≡ behind_lines 0 es
  pub last : get_or F n 0 < length S

pub holds : (S F : List ℕ) (es : List End) (n : ℕ) → take (length es + 1) S ≡ 0 ∷ map place_behind es → take (n + 1) F ≡ 0 ∷ row_ends 0 es
    → length es < length S → n < length F → Holds S F es n
holds S F es n starts rows starts_fit rows_fit =
    let count : n ≡ length (row_ends 0 es) = omega (arith, ap length rows, length-take-le (n + 1) F (omega arith)) in
    record {
      index = index-is S F es n starts rows starts_fit rows_fit count;
      table = table-is S F es n starts rows starts_fit rows_fit count;
      place = place-is S F es n starts rows starts_fit rows_fit count;
      last = omega (arith, last-inside S F es n starts rows starts_fit rows_fit count);
    }

-- ---- fields lie in the text

AreWithin-onto_first : (n : ℕ) (c : Cut) (rs : List (List Cut)) → IsWithin n c → AreWithin n rs → AreWithin n (onto_first c rs)
AreWithin-onto_first n c [] h k = tt
AreWithin-onto_first n c (r ∷ rs) h k = ((h, k.0), k.1)

pub within-entries : (m : Marks) (s : Spot) (start k n : ℕ) (v : List ℕ) → start ≤ k → k + length v ≤ n
    → AreWithin n (records_at start (entries m s k v)) × ((j : ℕ) → j ≤ k → behind_lines j (entries m s k v) ≤ n)
within-entries m s start k n [] le fits = (tt, λ j h. omega arith)
within-entries m s start k n (x ∷ v) le fits =
    by_test (ends_field m s x) (within-entries m (next_spot m s x) start (k + 1) n v (omega arith) (omega arith)) (within-entries m (next_spot m s x) (k + 1) (k + 1) n v (omega arith) (omega arith))
  where
    by_test : (t : Bool) → AreWithin n (records_at start (entries m (next_spot m s x) (k + 1) v)) × ((j : ℕ) → j ≤ k + 1 → behind_lines j (entries m (next_spot m s x) (k + 1) v) ≤ n)
        → AreWithin n (records_at (k + 1) (entries m (next_spot m s x) (k + 1) v)) × ((j : ℕ) → j ≤ k + 1 → behind_lines j (entries m (next_spot m s x) (k + 1) v) ≤ n)
        → AreWithin n (records_at start (cond t (end_at k (x == m.line_end) ∷ entries m (next_spot m s x) (k + 1) v) (entries m (next_spot m s x) (k + 1) v)))
        × ((j : ℕ) → j ≤ k → behind_lines j (cond t (end_at k (x == m.line_end) ∷ entries m (next_spot m s x) (k + 1) v) (entries m (next_spot m s x) (k + 1) v)) ≤ n)
    by_test false h _ = (h.0, λ j le. h.1 j (omega arith))
    by_test true _ h = (
      by_line (x == m.line_end),
      λ j le. by_end (x == m.line_end) j le,
    )
      where
        by_line : (l : Bool) → AreWithin n (cond l ((record { start = start; end = k } ∷ []) ∷ records_at (k + 1) (entries m (next_spot m s x) (k + 1) v)) (onto_first (record { start = start; end = k }) (records_at (k + 1) (entries m (next_spot m s x) (k + 1) v))))
        by_line true = (((le, omega arith), tt), h.0)
        by_line false = AreWithin-onto_first n _ (records_at (k + 1) (entries m (next_spot m s x) (k + 1) v)) (le, omega arith) h.0

        by_end : (l : Bool) (j : ℕ) → j ≤ k → cond l (behind_lines (k + 1) (entries m (next_spot m s x) (k + 1) v)) (behind_lines j (entries m (next_spot m s x) (k + 1) v)) ≤ n
        by_end true j le = h.1 (k + 1) (omega arith)
        by_end false j le = h.1 j (omega arith)
