-- What an index tells of a record.
use Rattle.std.proofs.Common.{◌≡◌, ℕ, zero, suc, ◌+◌, ◌-◌, ◌<◌, ◌≤◌, List, [], ◌∷◌, map, length, get_or, sym, ap, subst, ◌∙◌, arith, add-zero}
use Rattle.std.specs.Prelude.{None, Some, slice_get}
use Rattle.std.specs.Option.{option_map}
use Rattle.std.specs.List.{AllByRecursion, range_with_len}
use Rattle.std.proofs.lemmas.Option.{slice_get-map, slice_get_past}
use Rattle.std.proofs.lemmas.List.{get_or-map}
use Rattle.std.proofs.lemmas.List.FromFn.{get_or-map-range_with_len, length-map-range_with_len}
use Rattle.pl_table.specs.Tables.{Cut, IsWithin, AreWithin, cut_text, fields_of}
use Rattle.pl_table.specs.Index.{cut_at, row_cuts, table_of}

slice_get-range : (a n c : ℕ) → c < n → slice_get (range_with_len a n) c ≡ Some (a + c)
slice_get-range a zero c h = absurd (omega arith)
slice_get-range a (suc n) zero h = ap (λ k. Some k) (sym (add-zero a))
slice_get-range a (suc n) (suc c) h = slice_get-range (a + 1) n c (omega arith) ∙ ap (λ k. Some k) (omega arith)

all-get : {X : Type 0} (P : X → Type 0) (xs : List X) (i : ℕ) (x : X) → AllByRecursion P xs → slice_get xs i ≡ Some x → P x
all-get P [] i x all e = absurd (cc)
all-get P (y ∷ ys) zero x all e = let same : y ≡ x = cc in subst P same all.0
all-get P (y ∷ ys) (suc i) x all e = all-get P ys i x all.1 e

row-within : (n : ℕ) (rows : List (List Cut)) (j : ℕ) → AreWithin n rows → AllByRecursion (IsWithin n) (get_or rows j [])
row-within n [] j all = tt
row-within n (r ∷ rs) zero all = all.0
row-within n (r ∷ rs) (suc j) all = row-within n rs j all.1

-- record j of n
module _ (S F : List ℕ) (n j : ℕ) (inside : j < n) where
  row-is : get_or (table_of S F n) j [] ≡ row_cuts S F j
  row-is = get_or-map-range_with_len (row_cuts S F) 0 n j j [] inside (omega arith)

  pub width-is : length (get_or (table_of S F n) j []) ≡ get_or F (j + 1) 0 - get_or F j 0
  width-is = ap length row-is ∙ length-map-range_with_len (cut_at S) (get_or F j 0) (get_or F (j + 1) 0 - get_or F j 0)

  text-row : (text : List ℕ) (c : ℕ) → slice_get (get_or (fields_of text (table_of S F n)) j []) c ≡ option_map (cut_text text) (slice_get (get_or (table_of S F n) j []) c)
  text-row text c =
      let long = length-map-range_with_len (row_cuts S F) 0 n in
      ap (λ (r : List (List ℕ)). slice_get r c) (get_or-map (λ (row : List Cut). map (cut_text text) row) (table_of S F n) j [] [] (omega (arith, long)))
      ∙ slice_get-map (cut_text text) (get_or (table_of S F n) j []) c

  pub field-none : (text : List ℕ) (c : ℕ) → get_or F (j + 1) 0 - get_or F j 0 ≤ c → slice_get (get_or (fields_of text (table_of S F n)) j []) c ≡ None
  field-none text c past = text-row text c ∙ ap (option_map (cut_text text)) (slice_get_past (get_or (table_of S F n) j []) c (omega (arith, width-is)))

  found : (c : ℕ) → c < get_or F (j + 1) 0 - get_or F j 0 → slice_get (get_or (table_of S F n) j []) c ≡ Some (cut_at S (get_or F j 0 + c))
  found c h =
      ap (λ (r : List Cut). slice_get r c) row-is ∙ slice_get-map (cut_at S) (range_with_len (get_or F j 0) (get_or F (j + 1) 0 - get_or F j 0)) c
      ∙ ap (option_map (cut_at S)) (slice_get-range (get_or F j 0) (get_or F (j + 1) 0 - get_or F j 0) c h)

  pub field-some : (text : List ℕ) (c : ℕ) → c < get_or F (j + 1) 0 - get_or F j 0 → slice_get (get_or (fields_of text (table_of S F n)) j []) c ≡ Some (cut_text text (cut_at S (get_or F j 0 + c)))
  field-some text c h = text-row text c ∙ ap (option_map (cut_text text)) (found c h)

  pub field-within : (size c : ℕ) → c < get_or F (j + 1) 0 - get_or F j 0 → AreWithin size (table_of S F n) → IsWithin size (cut_at S (get_or F j 0 + c))
  field-within size c h all = all-get (IsWithin size) (get_or (table_of S F n) j []) c _ (row-within size (table_of S F n) j all) (found c h)
