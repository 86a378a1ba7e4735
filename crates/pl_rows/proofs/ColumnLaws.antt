-- Columns of cells: row by row, and taken back.
use Rattle.std.proofs.Common.{◌≡◌, ℕ, zero, suc, ◌+◌, ◌-◌, ◌<◌, List, [], ◌∷◌, ◌++◌, map, length, take, set, get_or, refl, sym, ◌∙◌, ap, arith, append-nil, append_assoc, length-append}
use Rattle.std.specs.Prelude.{Option}
use Rattle.std.proofs.lemmas.List.{length-map, map-append, take_at}
use Rattle.pl_frame.specs.declared.data_type.DataType.{DataType}
use Rattle.pl_frame.specs.Frame.{Scalar}
use Rattle.pl_cells.specs.BufferValue.{BufferValue, holding, with_more}
use Rattle.pl_cells.specs.Cells.{value_of}
use Rattle.pl_rows.specs.Cells.{RowRules, cell}
use Rattle.pl_rows.specs.Columns.{column_cells, with_columns}
use Rattle.pl_rows.specs.Plan.{state_types}
use Rattle.pl_cells.specs.Columns.{field_in}
use Rattle.pl_table.specs.Rows.{Row}
use Rattle.pl_rows.specs.Steps.{without_last, cut_back}

pub with_columns-none : (rules : RowRules) (places : List ℕ) (buffers : List BufferValue) → length places ≡ length buffers → with_columns rules [] places buffers ≡ buffers
with_columns-none rules [] [] e = refl
with_columns-none rules [] (buffer ∷ others) e = absurd (omega arith)
with_columns-none rules (place ∷ places) [] e = absurd (omega arith)
with_columns-none rules (place ∷ places) (buffer ∷ others) e =
    ap (λ v. holding buffer v ∷ with_columns rules [] places others) (append-nil buffer.values)
    ∙ ap (λ l. buffer ∷ l) (with_columns-none rules places others (omega arith))

-- rows, and then others
pub with_columns-append : (rules : RowRules) (first then : List Row) (places : List ℕ) (buffers : List BufferValue)
    → with_columns rules then places (with_columns rules first places buffers) ≡ with_columns rules (first ++ then) places buffers
with_columns-append rules first then [] buffers = refl
with_columns-append rules first then (place ∷ places) [] = refl
with_columns-append rules first then (place ∷ places) (buffer ∷ others) =
    let column : ℕ × DataType = (place, buffer.dtype) in
    ap (λ v. holding buffer v ∷ with_columns rules then places (with_columns rules first places others))
    (append_assoc buffer.values (column_cells rules first column) (column_cells rules then column)
    ∙ ap (λ l. buffer.values ++ l) (sym (map-append (λ (row : Row). value_of (cell rules place buffer.dtype (field_in row.fields place))) first then)))
    ∙ ap (λ l. with_more buffer (column_cells rules (first ++ then) column) ∷ l) (with_columns-append rules first then places others)

-- one column more
pub with_columns-more : (rules : RowRules) (given : List Row) (places : List ℕ) (buffers : List BufferValue) (place : ℕ) (buffer : BufferValue) → length places ≡ length buffers
    → with_columns rules given (places ++ place ∷ []) (buffers ++ buffer ∷ []) ≡ with_columns rules given places buffers ++ with_more buffer (column_cells rules given (place, buffer.dtype)) ∷ []
with_columns-more rules given [] [] place buffer e = refl
with_columns-more rules given [] (first ∷ others) place buffer e = absurd (omega arith)
with_columns-more rules given (first ∷ places) [] place buffer e = absurd (omega arith)
with_columns-more rules given (p ∷ places) (first ∷ others) place buffer e =
    ap (λ l. with_more first (column_cells rules given (p, first.dtype)) ∷ l) (with_columns-more rules given places others place buffer (omega arith))

pub length-with_columns : (rules : RowRules) (given : List Row) (places : List ℕ) (buffers : List BufferValue) → length places ≡ length buffers
    → length (with_columns rules given places buffers) ≡ length buffers
length-with_columns rules given [] [] e = refl
length-with_columns rules given [] (buffer ∷ others) e = absurd (omega arith)
length-with_columns rules given (place ∷ places) [] e = refl
length-with_columns rules given (place ∷ places) (buffer ∷ others) e = omega (arith, length-with_columns rules given places others (omega arith))

-- cells change no type
pub state_types-with_columns : (rules : RowRules) (given : List Row) (places : List ℕ) (buffers : List BufferValue) → length places ≡ length buffers
    → state_types (with_columns rules given places buffers) ≡ state_types buffers
state_types-with_columns rules given [] [] e = refl
state_types-with_columns rules given [] (buffer ∷ others) e = absurd (omega arith)
state_types-with_columns rules given (place ∷ places) [] e = refl
state_types-with_columns rules given (place ∷ places) (buffer ∷ others) e = ap (λ l. buffer.dtype ∷ l) (state_types-with_columns rules given places others (omega arith))

-- cells that were put at the end are taken back
without_last-cells : (n : ℕ) (buffer : BufferValue) (cells : List (Option Scalar)) → length cells ≡ n → without_last n (with_more buffer cells) ≡ buffer
without_last-cells n buffer cells e =
    let many : length (buffer.values ++ cells) - n ≡ length buffer.values = omega (arith, length-append buffer.values cells) in
    ap (λ k. holding buffer (take k (buffer.values ++ cells))) many
    ∙ ap (holding buffer) (take_at buffer.values cells (length buffer.values) refl)

pub without_last-with_columns : (rules : RowRules) (given : List Row) (n : ℕ) (places : List ℕ) (buffers : List BufferValue) → length given ≡ n → length places ≡ length buffers
    → map (without_last n) (with_columns rules given places buffers) ≡ buffers
without_last-with_columns rules given n [] [] e f = refl
without_last-with_columns rules given n [] (buffer ∷ others) e f = absurd (omega arith)
without_last-with_columns rules given n (place ∷ places) [] e f = absurd (omega arith)
without_last-with_columns rules given n (place ∷ places) (buffer ∷ others) e f =
    ap (λ b. b ∷ map (without_last n) (with_columns rules given places others))
    (without_last-cells n buffer (column_cells rules given (place, buffer.dtype)) (length-map given (λ (row : Row). value_of (cell rules place buffer.dtype (field_in row.fields place))) ∙ e))
    ∙ ap (λ l. buffer ∷ l) (without_last-with_columns rules given n places others e (omega arith))

-- one buffer more loses its last cells
pub cut_back-more : (n i : ℕ) (before : List BufferValue) (other : BufferValue) → i < length before
    → set (cut_back i n before) i (without_last n (get_or (cut_back i n before) i other)) ≡ cut_back (i + 1) n before
cut_back-more n zero [] other h = absurd (omega arith)
cut_back-more n zero (buffer ∷ others) other h = refl
cut_back-more n (suc i) [] other h = absurd (omega arith)
cut_back-more n (suc i) (buffer ∷ others) other h =
    let more : suc (i + 1) ≡ suc i + 1 = omega arith in
    ap (λ l. without_last n buffer ∷ l) (cut_back-more n i others other (omega arith)) ∙ ap (λ k. cut_back k n (buffer ∷ others)) more
