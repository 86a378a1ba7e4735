-- Laws of the numbers of rows.
use Rattle.std.proofs.Common.{◌≡◌, ℕ, ℤ, pos, zero, suc, ◌+◌, ◌<◌, ◌≤◌, ◌^◌, false, List, [], ◌∷◌, ◌++◌, map, Option, None, Some, refl, sym, ◌∙◌, ap, subst, arith}
use Rattle.std.specs.List.{range_with_len}
use Rattle.std.specs.Option.{option_map}
use Rattle.std.proofs.lemmas.List.FromFn.{length-map-range_with_len, get_or-map-range_with_len, map-range_with_len_more}
use Rattle.pl_frame.specs.declared.data_type.DataType.TheVariants as dtype
use Rattle.pl_frame.specs.Columns.{number_cells, misfits, HoldsType}
use Rattle.pl_frame.specs.Frame.{Number, ColumnValue}
use Rattle.pl_frame.specs.RowIndex.{row_numbers, row_index_column}
use Rattle.pl_frame.proofs.CellLaws.{all_hold}

-- one number more
pub number_more : (offset row : ℕ) (made new : List (Option ℤ)) (number : ℤ) → made ≡ map (λ n. Some (pos n)) (range_with_len offset row) → number ≡ pos (offset + row) →
    new ≡ made ++ Some number ∷ [] → new ≡ map (λ n. Some (pos n)) (range_with_len offset (row + 1))
number_more offset row made new number before is e =
    e ∙ (λ j. before j ++ Some (is j) ∷ []) ∙ sym (map-range_with_len_more (λ n. Some (pos n)) offset row (offset + row) refl)

cells_are : (offset count : ℕ) → number_cells (map (λ n. Some (pos n)) (range_with_len offset count)) ≡ row_numbers offset count
cells_are offset zero = refl
cells_are offset (suc count) = ap (λ rest. Some (Number (pos offset)) ∷ rest) (cells_are (offset + 1) count)

-- the cells are the numbers of rows
pub row_cells : (offset count : ℕ) (numbers : List (Option ℤ)) → numbers ≡ map (λ n. Some (pos n)) (range_with_len offset count) → number_cells numbers ≡ row_numbers offset count
row_cells offset count numbers is = ap number_cells is ∙ cells_are offset count

-- the column of them
pub numbered : (column : ColumnValue) (name : List ℕ) (offset count : ℕ) (numbers : List (Option ℤ)) →
    column ≡ record { name = name; dtype = dtype.UInt64; values = number_cells numbers } → numbers ≡ map (λ n. Some (pos n)) (range_with_len offset count) →
    column ≡ row_index_column name offset count
numbered column name offset count numbers column_is is = column_is ∙ (λ j. record { name = name; dtype = dtype.UInt64; values = row_cells offset count numbers is j })

fits : (n : ℕ) → n < 2 ^ 64 → misfits dtype.UInt64 (option_map Number (Some (pos n))) ≡ false
fits n l = grind arith

-- they fit 64 bits
pub row_numbers_hold : (offset count : ℕ) (numbers : List (Option ℤ)) → offset + count ≤ 2 ^ 64 → numbers ≡ map (λ n. Some (pos n)) (range_with_len offset count) →
    HoldsType dtype.UInt64 (number_cells numbers)
row_numbers_hold offset count numbers small is =
    subst (λ xs. HoldsType dtype.UInt64 (number_cells xs)) (sym is)
    (all_hold Number dtype.UInt64 (map (λ n. Some (pos n)) (range_with_len offset count))
    (λ k l. let within : k < count = let size = length-map-range_with_len (λ n. Some (pos n)) offset count in omega (arith, l, size) in
    ap (λ o. misfits dtype.UInt64 (option_map Number o)) (get_or-map-range_with_len (λ n. Some (pos n)) offset count k (offset + k) None within refl)
    ∙ fits (offset + k) (omega arith)))
