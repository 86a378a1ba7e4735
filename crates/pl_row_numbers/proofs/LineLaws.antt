-- In what is written of rows each line ends at its first line feed behind an even number of quotes.
use Rattle.std.proofs.Common.{◌≡◌, ℕ, Bool, true, false, ◌||◌, ◌==◌, cond, List, [], ◌∷◌, ◌++◌, length, map, Option, None, Some, refl, sym, ◌∙◌, ap, subst, arith}
use Rattle.std.specs.List.{list_any, join_with_byte}
use Rattle.std.proofs.lemmas.Bool.Decides.{nat_tests}
use Rattle.pl_frame.specs.declared.data_type.DataType.{DataType}
use Rattle.pl_frame.specs.Frame.{Scalar, Truth, Number, Letters, ColumnValue, cell_at}
use Rattle.pl_frame.specs.Types.{is_numeric}
use Rattle.pl_text.specs.FrameText.{WriteOptions, is_special, is_bare, needs_quotes, quoted, quoted_null, written_text, written_value, written_null, written_cell, row_line}
use Rattle.pl_text.specs.ValueText.{printed}
use Rattle.pl_row_numbers.specs.Numbers.{IsPlain, CanNumber}
use Rattle.pl_row_numbers.specs.Parts.{Goes, IsLast}
use Rattle.pl_row_numbers.proofs.PlainLaws.{plain-cons, plain-printed_number, plain-printed_truth}
use Rattle.pl_row_numbers.proofs.QuoteLaws.{either_false, Goes-append, Goes-none, Goes-plain, Goes-between, Goes-quoted}

-- ---- cells

null-goes : (o : WriteOptions) → CanNumber o → Goes false (written_null o) false
null-goes o can = by (o.style == 1)
  where
    by : (t : Bool) → Goes false (cond t (quoted_null o.quote o.null) o.null) false
    by true = subst (λ q. Goes false (quoted_null q o.null) false) (sym can.quote) (Goes-between o.null (Goes-plain true o.null can.null))
    by false = Goes-plain false o.null can.null

value-goes : (o : WriteOptions) (numeric : Bool) (text : List ℕ) → CanNumber o → IsPlain text → Goes false (written_value o numeric text) false
value-goes o numeric text can plain = by (is_bare o.style numeric)
  where
    by : (t : Bool) → Goes false (cond t text (quoted o.quote text)) false
    by true = Goes-plain false text plain
    by false = Goes-quoted o.quote text can.quote

no_special : (s q : ℕ) (text : List ℕ) → q ≡ 34 → list_any (is_special s q) text ≡ false → IsPlain text
no_special s q [] is none = refl
no_special s q (x ∷ xs) is none =
    let parts = either_false (is_special s q x) (list_any (is_special s q) xs) none in
    let last = either_false ((x == s || x == 10) || x == 13) (x == q) parts.0 in
    let return = either_false (x == s || x == 10) (x == 13) last.0 in
    let feed = either_false (x == s) (x == 10) return.0 in
    let quote : (x == 34) ≡ false = subst (λ q. (x == q) ≡ false) is last.1 in
    plain-cons x xs (ap (λ t. t || x == 10) quote ∙ feed.1) (no_special s q xs is parts.1)

text-goes : (o : WriteOptions) (text : List ℕ) → CanNumber o → Goes false (written_text o text) false
text-goes o text can = by (o.style == 3) refl (o.style == 0) (needs_quotes o.separator o.quote text) refl
  where
    by : (never : Bool) → (o.style == 3) ≡ never → (needed quotes : Bool) → needs_quotes o.separator o.quote text ≡ quotes
        → Goes false (cond never text (cond needed (cond quotes (quoted o.quote text) text) (quoted o.quote text))) false
    by true e needed quotes f = let never : o.style ≡ 3 = grind (arith, nat_tests, e) in absurd (can.style never)
    by false e true true f = Goes-quoted o.quote text can.quote
    by false e true false f =
        Goes-plain false text (no_special o.separator o.quote text can.quote (either_false (length text == 0) (list_any (is_special o.separator o.quote) text) f).1)
    by false e false quotes f = Goes-quoted o.quote text can.quote

cell-goes : (o : WriteOptions) (type : DataType) (cell : Option Scalar) → CanNumber o → Goes false (written_cell o type cell) false
cell-goes o type None can = null-goes o can
cell-goes o type (Some (Letters text)) can = text-goes o text can
cell-goes o type (Some (Truth b)) can = value-goes o (is_numeric type) (printed type (Truth b)) can (plain-printed_truth type b)
cell-goes o type (Some (Number n)) can = value-goes o (is_numeric type) (printed type (Number n)) can (plain-printed_number type n)

-- ---- lines

cells-go : (o : WriteOptions) (row : ℕ) (columns : List ColumnValue) → CanNumber o
    → Goes false (join_with_byte o.separator (map (λ column. written_cell o column.dtype (cell_at column row)) columns)) false
cells-go o row [] can = Goes-none false
cells-go o row (column ∷ []) can = cell-goes o column.dtype (cell_at column row) can
cells-go o row (column ∷ next ∷ columns) can =
    let rest = join_with_byte o.separator (map (λ column. written_cell o column.dtype (cell_at column row)) (next ∷ columns)) in
    Goes-append false false false (written_cell o column.dtype (cell_at column row)) (o.separator ∷ rest) (cell-goes o column.dtype (cell_at column row) can)
    (Goes-append false false false (o.separator ∷ []) rest (Goes-plain false (o.separator ∷ []) can.separator) (cells-go o row (next ∷ columns) can))

-- the line of a row
pub line-is : (o : WriteOptions) (columns : List ColumnValue) (row : ℕ) → CanNumber o → IsLast false (row_line o columns row)
line-is o columns row can =
    let body = join_with_byte o.separator (map (λ column. written_cell o column.dtype (cell_at column row)) columns) in
    record { body = body; is = ap (λ t. body ++ t) can.terminator; goes = cells-go o row columns can }
