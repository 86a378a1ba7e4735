-- Laws of parts, one behind the other.
use Rattle.std.proofs.Common.{◌≡◌, ℕ, zero, suc, ◌+◌, ◌-◌, ◌<◌, ◌≤◌, List, [], ◌∷◌, ◌++◌, length, take, drop, get_or, slice_get, Option, None, is_none, count_by, cond, refl, sym, ◌∙◌, ap, subst, arith}
use Rattle.std.specs.List.{flat_map}
use Rattle.std.proofs.lemmas.List.{length-append, take_at, drop_at, drop-drop, drop-take, take-take}
use Rattle.std.proofs.lemmas.List.Sums.{sum_by-append, count_by-le-length}
use Rattle.pl_frame.specs.declared.data_type.DataType.{DataType}
use Rattle.pl_frame.specs.declared.part.Part.{Part}
use Rattle.pl_frame.specs.Columns.{HoldsType}
use Rattle.pl_frame.specs.Frame.{Scalar}
use Rattle.pl_frame.specs.Parts.{part_cells, parts_cells, ends_from}
use Rattle.pl_frame.proofs.HeldLaws.{held-run}
use Rattle.pl_frame.proofs.StackedLaws.{flat_map_step}

pub length-ends : (from : ℕ) (parts : List Part) → length (ends_from from parts) ≡ length parts
length-ends from [] = refl
length-ends from (p ∷ ps) = ap suc (length-ends (from + length (part_cells p)) ps)

-- the last part ends where all rows do
pub last-end : (from : ℕ) (parts : List Part) → get_or (from ∷ ends_from from parts) (length (ends_from from parts)) 0 ≡ from + length (parts_cells parts)
last-end from [] = omega arith
last-end from (p ∷ ps) =
    let here = last-end (from + length (part_cells p)) ps in let size = length-append (part_cells p) (parts_cells ps) in omega (arith, here, size)

-- one part more
ends-step : (from : ℕ) (parts : List Part) (part : Part) →
    ends_from from (parts ++ part ∷ []) ≡ ends_from from parts ++ (from + length (parts_cells parts) + length (part_cells part)) ∷ []
ends-step from [] part = ap (λ n. (n + length (part_cells part)) ∷ []) (omega arith)
ends-step from (p ∷ ps) part =
    let e = from + length (part_cells p) in
    let same : e + length (parts_cells ps) + length (part_cells part) ≡ from + length (parts_cells (p ∷ ps)) + length (part_cells part) =
    let size = length-append (part_cells p) (parts_cells ps) in omega (arith, size) in
    ap (λ rest. e ∷ rest) (ends-step e ps part ∙ ap (λ n. ends_from e ps ++ n ∷ []) same)

pub ends-more : (parts : List Part) (part : Part) (ends : List ℕ) (end : ℕ) → ends ≡ ends_from 0 parts → end ≡ length (parts_cells parts) + length (part_cells part) →
    ends ++ end ∷ [] ≡ ends_from 0 (parts ++ part ∷ [])
ends-more parts part ends end before is =
    (λ j. before j ++ is j ∷ []) ∙ ap (λ n. ends_from 0 parts ++ n ∷ []) (omega arith) ∙ sym (ends-step 0 parts part)

-- ---- where a row is

get_left : (xs ys : List (Option Scalar)) (i : ℕ) → i < length xs → slice_get (xs ++ ys) i ≡ slice_get xs i
get_left [] ys i l = absurd (omega arith)
get_left (x ∷ xs) ys zero l = refl
get_left (x ∷ xs) ys (suc i) l = get_left xs ys i (omega arith)

get_right : (xs ys : List (Option Scalar)) (i j : ℕ) → i ≡ length xs + j → slice_get (xs ++ ys) i ≡ slice_get ys j
get_right [] ys i j e = ap (slice_get ys) (omega arith)
get_right (x ∷ xs) ys zero j e = absurd (omega arith)
get_right (x ∷ xs) ys (suc i) j e = get_right xs ys i j (omega arith)

-- a part begins behind all that stand before it
begin-behind : (from : ℕ) (parts : List Part) (at : ℕ) → at ≤ length parts → from ≤ get_or (from ∷ ends_from from parts) at 0
begin-behind from parts zero l = omega arith
begin-behind from [] (suc at) l = absurd (omega arith)
begin-behind from (p ∷ ps) (suc at) l = let further = begin-behind (from + length (part_cells p)) ps at (omega arith) in omega (arith, further)

module _ (d : Part) where
  row_from : (from : ℕ) (parts : List Part) (row at : ℕ) → at < length parts → get_or (from ∷ ends_from from parts) at 0 ≤ from + row → from + row < get_or (ends_from from parts) at 0 →
      slice_get (parts_cells parts) row ≡ slice_get (part_cells (get_or parts at d)) (from + row - get_or (from ∷ ends_from from parts) at 0)
  row_from from [] row at l b e = absurd (omega arith)
  row_from from (p ∷ ps) row zero l b e =
      let here : row ≡ from + row - from = omega arith in
      get_left (part_cells p) (parts_cells ps) row (omega (arith, e)) ∙ ap (slice_get (part_cells p)) here
  row_from from (p ∷ ps) row (suc at) l b e =
      let size = length (part_cells p) in
      let behind = begin-behind (from + size) ps at (omega (arith, l)) in
      let inside : row ≡ size + (row - size) = omega (arith, behind, b) in
      let place : from + row ≡ from + size + (row - size) = omega (arith, inside) in
      get_right (part_cells p) (parts_cells ps) row (row - size) inside
      ∙ row_from (from + size) ps (row - size) at (omega (arith, l)) (subst (λ n. get_or ((from + size) ∷ ends_from (from + size) ps) at 0 ≤ n) place b) (subst (λ n. n < get_or (ends_from (from + size) ps) at 0) place e)
      ∙ ap (λ n. slice_get (part_cells (get_or ps at d)) (n - get_or ((from + size) ∷ ends_from (from + size) ps) at 0)) (sym place)

-- the cell of a row stands in the part in which the row is
pub row_in_part : (parts : List Part) (ends : List ℕ) (row at begin : ℕ) (part : Part) → ends ≡ ends_from 0 parts → at < length ends → begin ≡ get_or (0 ∷ ends) at 0 → begin ≤ row →
    row < get_or ends at 0 → part ≡ get_or parts at part → slice_get (parts_cells parts) row ≡ slice_get (part_cells part) (row - begin)
row_in_part parts ends row at begin part are l b low high is =
    let l' : at < length parts = subst (λ n. at < n) (ap length are ∙ length-ends 0 parts) l in
    let b' : begin ≡ get_or (0 ∷ ends_from 0 parts) at 0 = b ∙ ap (λ es. get_or (0 ∷ es) at 0) are in
    let low' : get_or (0 ∷ ends_from 0 parts) at 0 ≤ 0 + row = omega (arith, b', low) in
    let high' : 0 + row < get_or (ends_from 0 parts) at 0 = let same = ap (λ es. get_or es at 0) are in omega (arith, same, high) in
    let from_begin : 0 + row - get_or (0 ∷ ends_from 0 parts) at 0 ≡ row - begin = omega (arith, b') in
    row_from part 0 parts row at l' low' high' ∙ (λ j. slice_get (part_cells (sym is j)) (from_begin j))

-- and there is such a row there
size_from : (from : ℕ) (parts : List Part) (at : ℕ) (d : Part) → at < length parts →
    get_or (ends_from from parts) at 0 ≡ get_or (from ∷ ends_from from parts) at 0 + length (part_cells (get_or parts at d))
size_from from [] at d l = absurd (omega arith)
size_from from (p ∷ ps) zero d l = refl
size_from from (p ∷ ps) (suc at) d l = size_from (from + length (part_cells p)) ps at d (omega arith)

pub row_within : (parts : List Part) (ends : List ℕ) (row at begin : ℕ) (part : Part) → ends ≡ ends_from 0 parts → at < length ends → begin ≡ get_or (0 ∷ ends) at 0 → begin ≤ row →
    row < get_or ends at 0 → part ≡ get_or parts at part → row - begin < length (part_cells part)
row_within parts ends row at begin part are l b low high is =
    let l' : at < length parts = subst (λ n. at < n) (ap length are ∙ length-ends 0 parts) l in
    let size : get_or ends at 0 ≡ begin + length (part_cells part) =
    ap (λ es. get_or es at 0) are ∙ size_from 0 parts at part l' ∙ (λ j. sym (b ∙ ap (λ es. get_or (0 ∷ es) at 0) are) j + length (part_cells (sym is j))) in
    omega (arith, size, low, high)

pub at_within : (parts : List Part) (ends : List ℕ) (at : ℕ) → ends ≡ ends_from 0 parts → at < length ends → at < length parts
at_within parts ends at are l = subst (λ n. at < n) (ap length are ∙ length-ends 0 parts) l

-- where all rows end
pub rows_end : (parts : List Part) (ends : List ℕ) → ends ≡ ends_from 0 parts → get_or (0 ∷ ends) (length ends) 0 ≡ length (parts_cells parts)
rows_end parts ends are = ap (λ es. get_or (0 ∷ es) (length es) 0) are ∙ last-end 0 parts ∙ omega arith

-- ---- nulls

pub nulls-step : (parts : List Part) (i : ℕ) (part : Part) → i < length parts → part ≡ get_or parts i part →
    count_by is_none (parts_cells (take (i + 1) parts)) ≡ count_by is_none (parts_cells (take i parts)) + count_by is_none (part_cells part)
nulls-step parts i part l at =
    ap (count_by is_none) (flat_map_step part_cells parts i part l at) ∙ sum_by-append (λ o. cond (is_none o) 1 0) (parts_cells (take i parts)) (part_cells part)

length-front : (parts : List Part) (n : ℕ) → length (parts_cells (take n parts)) ≤ length (parts_cells parts)
length-front parts zero = omega arith
length-front [] (suc n) = omega arith
length-front (p ∷ ps) (suc n) =
    let a = length-append (part_cells p) (parts_cells (take n ps)) in
    let b = length-append (part_cells p) (parts_cells ps) in
    let further = length-front ps n in omega (arith, a, b, further)

-- so far there are no more nulls than rows
pub nulls-within : (parts : List Part) (n : ℕ) → count_by is_none (parts_cells (take n parts)) ≤ length (parts_cells parts)
nulls-within parts n = let few = count_by-le-length is_none (parts_cells (take n parts)) in let front = length-front parts n in omega (arith, few, front)

-- ---- parts as runs of all rows

part_from : (from : ℕ) (parts : List Part) (at : ℕ) (d : Part) → at < length parts →
    part_cells (get_or parts at d) ≡ take (length (part_cells (get_or parts at d))) (drop (get_or (from ∷ ends_from from parts) at 0 - from) (parts_cells parts))
part_from from [] at d l = absurd (omega arith)
part_from from (p ∷ ps) zero d l =
    let none : from - from ≡ 0 = omega arith in
    sym (ap (λ n. take (length (part_cells p)) (drop n (part_cells p ++ parts_cells ps))) none ∙ take_at (part_cells p) (parts_cells ps) (length (part_cells p)) refl)
part_from from (p ∷ ps) (suc at) d l =
    let size = length (part_cells p) in
    let one = get_or ps at d in
    let begin = get_or ((from + size) ∷ ends_from (from + size) ps) at 0 in
    let behind = begin-behind (from + size) ps at (omega (arith, l)) in
    let all : begin - from ≡ size + (begin - (from + size)) = omega (arith, behind) in
    part_from (from + size) ps at d (omega (arith, l))
    ∙ ap (take (length (part_cells one)))
    (sym (ap (λ n. drop n (part_cells p ++ parts_cells ps)) all ∙ sym (drop-drop (begin - (from + size)) size (part_cells p ++ parts_cells ps))
    ∙ ap (drop (begin - (from + size))) (drop_at (part_cells p) (parts_cells ps) size refl)))

module _ (parts : List Part) (ends : List ℕ) (at begin : ℕ) (part : Part) (are : ends ≡ ends_from 0 parts) (l : at < length ends) (b : begin ≡ get_or (0 ∷ ends) at 0) (is : part ≡ get_or parts at part) where
  pub part_size : get_or ends at 0 ≡ begin + length (part_cells part)
  part_size =
      let l' : at < length parts = at_within parts ends at are l in
      ap (λ es. get_or es at 0) are ∙ size_from 0 parts at part l' ∙ (λ j. sym (b ∙ ap (λ es. get_or (0 ∷ es) at 0) are) j + length (part_cells (sym is j)))

  part_is : part_cells part ≡ take (length (part_cells part)) (drop begin (parts_cells parts))
  part_is =
      let l' : at < length parts = at_within parts ends at are l in
      let same : get_or (0 ∷ ends_from 0 parts) at 0 - 0 ≡ begin = (let e = b ∙ ap (λ es. get_or (0 ∷ es) at 0) are in omega (arith, e)) in
      ap part_cells is ∙ part_from 0 parts at part l' ∙ (λ j. take (length (part_cells (sym is j))) (drop (same j) (parts_cells parts)))

  -- its cells are values of what all are values of
  pub part_held : (type : DataType) → HoldsType type (parts_cells parts) → HoldsType type (part_cells part)
  part_held type h = subst (HoldsType type) (sym part_is) (held-run type (parts_cells parts) (length (part_cells part)) begin h)

  -- a run of it is one of all
  pub part_run : (row end : ℕ) → begin ≤ row → row ≤ end → end ≤ get_or ends at 0 →
      take (end - begin - (row - begin)) (drop (row - begin) (part_cells part)) ≡ take (end - row) (drop row (parts_cells parts))
  part_run row end low ordered high =
      let size = length (part_cells part) in
      let last = part_size in
      let few : end - begin - (row - begin) ≡ end - row = omega (arith, low, ordered) in
      let inside : size ≡ row - begin + (size - (row - begin)) = omega (arith, last, low, ordered, high) in
      let most : end - row ≤ size - (row - begin) = omega (arith, last, low, ordered, high) in
      let there : begin + (row - begin) ≡ row = omega (arith, low) in
      ap (λ n. take n (drop (row - begin) (part_cells part))) few
      ∙ ap (λ cells. take (end - row) (drop (row - begin) cells)) (part_is ∙ ap (λ n. take n (drop begin (parts_cells parts))) inside)
      ∙ ap (take (end - row)) (drop-take (row - begin) (size - (row - begin)) (drop begin (parts_cells parts)))
      ∙ take-take (end - row) (size - (row - begin)) (drop (row - begin) (drop begin (parts_cells parts))) most
      ∙ ap (take (end - row)) (drop-drop (row - begin) begin (parts_cells parts) ∙ ap (λ n. drop n (parts_cells parts)) there)
