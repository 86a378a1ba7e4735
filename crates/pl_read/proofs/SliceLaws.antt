-- The parts of files, joined, are the slice of all rows.
use Rattle.std.proofs.Common.{◌≡◌, ℕ, ◌+◌, ◌-◌, ◌≤◌, ◌<◌, min, max, nat_le, Bool, true, false, if◌then◌else◌, List, [], ◌∷◌, ◌++◌, length, take, drop, refl, sym, ◌∙◌, ap, arith, length-drop}
use Rattle.std.proofs.Math.Seq.{drop-append-add, drop-nil, take-append-add, take-length, take-nil}
use Rattle.std.proofs.lemmas.Bool.{leb-true, leb-false}
use Rattle.std.proofs.lemmas.List.{append-nil, take-append-le, drop-append-le}
use Rattle.pl_read.specs.declared.slices.SplitSlicePosition.TheVariants.{Before, Overlapping, After}
use Rattle.pl_read.specs.Slices.{rows_at, rows_in_file, part_of, joined_parts, all_rows, slice_of}

module _ {T : Type 0} where
  -- the rows of a slice from a row of all files on, of which these are left
  abbrev rest_of_slice : List T → (current start end : ℕ) → List T
  rest_of_slice rows current start end = take (end - max start current) (drop (start - current) rows)

  -- no row behind the end of a slice
  ended : (xs ys : List T) (n m : ℕ) → n ≡ 0 → m ≡ 0 → take n xs ≡ take m ys
  ended xs ys n m e f = ap (λ k. take k xs) e ∙ ap (λ k. take k ys) (sym f)

  -- a file that ends before the slice has no part in it
  passed : (rows later : List T) (current start end : ℕ) → current + length rows ≤ start
      → rest_of_slice later (current + length rows) start end ≡ rest_of_slice (rows ++ later) current start end
  passed rows later current start end before =
      let offset : start - current ≡ length rows + (start - (current + length rows)) = omega (arith, before) in
      let begin : max start (current + length rows) ≡ max start current = omega (arith, before) in
      ap (λ n. take (end - n) (drop (start - (current + length rows)) later)) begin
      ∙ ap (take (end - max start current)) (sym (drop-append-add rows later (start - (current + length rows))))
      ∙ ap (λ n. take (end - max start current) (drop n (rows ++ later))) (sym offset)

  -- so many of the first list and then of the second, where the slice ends in the first
  ends_within : (front later : List T) (count left behind : ℕ) → count ≡ left → left ≤ length front → behind ≡ 0
      → take count front ++ take behind later ≡ take left (front ++ later)
  ends_within front later count left behind e short none =
      ap (λ n. take n front ++ take behind later) e ∙ ap (λ n. take left front ++ take n later) none ∙ append-nil (take left front)
      ∙ sym (take-append-le left front later short)

  -- the same where the slice ends in the second
  ends_behind : (front later : List T) (count left behind : ℕ) → count ≡ length front → left ≡ length front + behind
      → take count front ++ take behind later ≡ take left (front ++ later)
  ends_behind front later count left behind e longer =
      ap (λ n. take n front ++ take behind later) e ∙ ap (λ xs. xs ++ take behind later) (take-length front)
      ∙ sym (take-append-add front later behind) ∙ ap (λ n. take n (front ++ later)) (sym longer)

  -- a file in which the slice begins, or in which it goes on
  joined : (rows later : List T) (current start end : ℕ) → start < current + length rows → current < end
      → part_of rows (start - current, min end (current + length rows) - max start current) ++ rest_of_slice later (current + length rows) start end
      ≡ rest_of_slice (rows ++ later) current start end
  joined rows later current start end begins ends =
      let offset : start - (current + length rows) ≡ 0 = omega (arith, begins) in
      ap (λ n. take (min end (current + length rows) - max start current) (drop (start - current) rows) ++ take (end - max start (current + length rows)) (drop n later)) offset
      ∙ by_end (nat_le end (current + length rows)) refl
      ∙ ap (take (end - max start current)) (sym (drop-append-le (start - current) rows later (omega (arith, begins))))
    where
      by_end : (t : Bool) → nat_le end (current + length rows) ≡ t
          → take (min end (current + length rows) - max start current) (drop (start - current) rows) ++ take (end - max start (current + length rows)) later
          ≡ take (end - max start current) (drop (start - current) rows ++ later)
      by_end true e =
          let last = leb-true end (current + length rows) e in
          let long = length-drop (start - current) rows in
          ends_within (drop (start - current) rows) later _ (end - max start current) _ (omega (arith, last)) (omega (arith, last, long, begins)) (omega (arith, last))
      by_end false e =
          let last = leb-false end (current + length rows) e in
          let long = length-drop (start - current) rows in
          ends_behind (drop (start - current) rows) later _ (end - max start current) _ (omega (arith, last, long, begins)) (omega (arith, last, long, begins))

  -- the part of one file, and then what the slice has of the files behind it
  step : (rows later parts : List T) (current start end : ℕ) → parts ≡ rest_of_slice later (current + length rows) start end
      → part_of rows (rows_in_file current (length rows) start end) ++ parts ≡ rest_of_slice (rows ++ later) current start end
  step rows later parts current start end e = by_begin (nat_le (current + length rows) start) refl
    where
      by_end : (begins : start < current + length rows) (t : Bool) → nat_le end current ≡ t
          → part_of rows (rows_at (if t then After else Overlapping (start - current) (min end (current + length rows) - max start current))) ++ parts ≡ rest_of_slice (rows ++ later) current start end
      by_end begins true f = e ∙ ended _ _ _ _ (omega (arith, begins, leb-true end current f)) (omega (arith, leb-true end current f))
      by_end begins false f = ap (λ xs. part_of rows (start - current, min end (current + length rows) - max start current) ++ xs) e ∙ joined rows later current start end begins (leb-false end current f)

      by_begin : (t : Bool) → nat_le (current + length rows) start ≡ t
          → part_of rows (rows_at (if t then Before else if nat_le end current then After else Overlapping (start - current) (min end (current + length rows) - max start current))) ++ parts ≡ rest_of_slice (rows ++ later) current start end
      by_begin true f = e ∙ passed rows later current start end (leb-true (current + length rows) start f)
      by_begin false f = by_end (leb-false (current + length rows) start f) (nat_le end current) refl

  parts_from : (current : ℕ) (files : List (List T)) (start end : ℕ) → joined_parts current files start end ≡ rest_of_slice (all_rows files) current start end
  parts_from current [] start end = sym (ap (take (end - max start current)) (drop-nil (start - current)) ∙ take-nil (end - max start current))
  parts_from current (rows ∷ files) start end = step rows (all_rows files) _ current start end (parts_from (current + length rows) files start end)

  -- the parts of files, joined, are the slice of all rows
  pub joined_parts-slice : (files : List (List T)) (start end : ℕ) → joined_parts 0 files start end ≡ slice_of (all_rows files) start end
  joined_parts-slice files start end =
      let begin : max start 0 ≡ start = omega arith in
      let offset : start - 0 ≡ start = omega arith in
      parts_from 0 files start end ∙ ap (λ n. take (end - n) (drop (start - 0) (all_rows files))) begin ∙ ap (λ n. take (end - start) (drop n (all_rows files))) offset
