-- The lines of rows that are put behind others.
use Rattle.std.proofs.Common.{◌≡◌, ℕ, zero, suc, ◌+◌, ◌<◌, List, [], ◌∷◌, ◌++◌, length, length-append, map, slice_get, unwrap_or, Option, None, Some, refl, sym, ◌∙◌, ap, subst, append_assoc, append-nil, arith}
use Rattle.std.specs.Prelude.{All}
use Rattle.std.specs.Io.KnownBytes.{Appends}
use Rattle.std.specs.List.{flat_map}
use Rattle.std.proofs.lemmas.List.Elements.{All-head, All-tail}
use Rattle.pl_frame.specs.Frame.{Scalar, ColumnValue, HaveHeight, IsFrame, cell_at, height_of, names_of}
use Rattle.pl_frame.specs.FrameParts.{HaveSameColumns, empty_columns, schema_of, stacked, all_stacked}
use Rattle.pl_frame.specs.Schema.{Entry, names_in}
use Rattle.pl_text.specs.FrameText.{WriteOptions, line, row_line, row_lines, written_cell}
use Rattle.pl_write.specs.Batches.{HaveSchema, all_lines}
use Rattle.pl_write.proofs.WriteLaws.{row_lines-both}

-- ---- the cells of a row

cell-front : (a b : List (Option Scalar)) (k : ℕ) → k < length a → unwrap_or (slice_get (a ++ b) k) None ≡ unwrap_or (slice_get a k) None
cell-front [] b k inside = absurd (omega (arith, inside))
cell-front (x ∷ a) b zero inside = refl
cell-front (x ∷ a) b (suc k) inside = cell-front a b k (omega (arith, inside))

cell-behind : (a b : List (Option Scalar)) (n k : ℕ) → length a ≡ n → unwrap_or (slice_get (a ++ b) (n + k)) None ≡ unwrap_or (slice_get b k) None
cell-behind [] b n k long = let here : n + k ≡ k = omega (arith, long) in ap (λ i. unwrap_or (slice_get b i) None) here
cell-behind (x ∷ a) b zero k long = absurd (omega (arith, long))
cell-behind (x ∷ a) b (suc n) k long =
    let here : suc n + k ≡ suc (n + k) = omega arith in
    ap (λ i. unwrap_or (slice_get (x ∷ (a ++ b)) i) None) here ∙ cell-behind a b n k (omega (arith, long))

-- the first columns have one type, and the others the same names and types
same-entry : (c x : ColumnValue) (cs xs : List ColumnValue) → HaveSameColumns (c ∷ cs) (x ∷ xs) → ◌≡◌ {A = Entry} (c.name, c.dtype) (x.name, x.dtype)
same-entry c x cs xs same = cc

same-first : (c x : ColumnValue) (cs xs : List ColumnValue) → HaveSameColumns (c ∷ cs) (x ∷ xs) → c.dtype ≡ x.dtype
same-first c x cs xs same = ap (λ (entry : Entry). entry.1) (same-entry c x cs xs same)

same-rest : (c x : ColumnValue) (cs xs : List ColumnValue) → HaveSameColumns (c ∷ cs) (x ∷ xs) → HaveSameColumns cs xs
same-rest c x cs xs same = cc

-- the cells of a row
abbrev cells_of : WriteOptions → List ColumnValue → ℕ → List (List ℕ)
cells_of o columns row = map (λ column. written_cell o column.dtype (cell_at column row)) columns

cells-front : (o : WriteOptions) (columns others : List ColumnValue) (n row : ℕ) → HaveSameColumns columns others → HaveHeight n columns → row < n → cells_of o (stacked columns others) row ≡ cells_of o columns row
cells-front o [] others n row same have inside = refl
cells-front o (c ∷ cs) [] n row same have inside = absurd (cc)
cells-front o (c ∷ cs) (x ∷ xs) n row same have inside =
    let cell = cell-front c.values x.values row (omega (arith, inside, have.0)) in
    let rest = cells-front o cs xs n row (same-rest c x cs xs same) have.1 inside in
    λ j. written_cell o c.dtype (cell j) ∷ rest j

cells-behind : (o : WriteOptions) (columns others : List ColumnValue) (n row : ℕ) → HaveSameColumns columns others → HaveHeight n columns → cells_of o (stacked columns others) (n + row) ≡ cells_of o others row
cells-behind o [] [] n row same have = refl
cells-behind o [] (x ∷ xs) n row same have = absurd (cc)
cells-behind o (c ∷ cs) [] n row same have = absurd (cc)
cells-behind o (c ∷ cs) (x ∷ xs) n row same have =
    let cell = cell-behind c.values x.values n row have.0 in
    let rest = cells-behind o cs xs n row (same-rest c x cs xs same) have.1 in
    λ j. written_cell o (same-first c x cs xs same j) (cell j) ∷ rest j

-- ---- the lines of rows

lines-alike : (o : WriteOptions) (a b : List ColumnValue) (i k count : ℕ) → ((n : ℕ) → n < count → row_line o a (i + n) ≡ row_line o b (k + n)) → row_lines o a i count ≡ row_lines o b k count
lines-alike o a b i k zero each = refl
lines-alike o a b i k (suc count) each =
    let here : row_line o a i ≡ row_line o b k =
    ap (row_line o a) (let same : i ≡ i + 0 = omega arith in same) ∙ each 0 (omega arith) ∙ ap (row_line o b) (let same : k + 0 ≡ k = omega arith in same) in
    let rest : row_lines o a (i + 1) count ≡ row_lines o b (k + 1) count =
    lines-alike o a b (i + 1) (k + 1) count
    (λ n inside. ap (row_line o a) (let same : i + 1 + n ≡ i + suc n = omega arith in same)
    ∙ each (suc n) (omega (arith, inside))
    ∙ ap (row_line o b) (let same : k + suc n ≡ k + 1 + n = omega arith in same)) in
    λ j. here j ++ rest j

-- their heights add up
pub height-stacked : (columns others : List ColumnValue) → HaveSameColumns columns others → height_of (stacked columns others) ≡ height_of columns + height_of others
height-stacked [] [] same = refl
height-stacked [] (x ∷ xs) same = absurd (cc)
height-stacked (c ∷ cs) [] same = absurd (cc)
height-stacked (c ∷ cs) (x ∷ xs) same = length-append c.values x.values

heights-stacked : (n m : ℕ) (columns others : List ColumnValue) → HaveHeight n columns → HaveHeight m others → HaveHeight (n + m) (stacked columns others)
heights-stacked n m [] others h k = tt
heights-stacked n m (c ∷ cs) [] h k = tt
heights-stacked n m (c ∷ cs) (x ∷ xs) h k = (length-append c.values x.values ∙ (λ j. h.0 j + k.0 j), heights-stacked n m cs xs h.1 k.1)

-- they have one height
pub level-stacked : (columns others : List ColumnValue) → HaveSameColumns columns others → HaveHeight (height_of columns) columns → HaveHeight (height_of others) others
    → HaveHeight (height_of (stacked columns others)) (stacked columns others)
level-stacked columns others same h k =
    subst (λ n. HaveHeight n (stacked columns others)) (sym (height-stacked columns others same)) (heights-stacked (height_of columns) (height_of others) columns others h k)

-- the lines of rows that are put behind others stand behind the lines of these
pub lines-stacked : (o : WriteOptions) (columns others : List ColumnValue) → HaveSameColumns columns others → HaveHeight (height_of columns) columns → all_lines o (stacked columns others) ≡ all_lines o columns ++ all_lines o others
lines-stacked o columns others same have =
    let n = height_of columns in
    let m = height_of others in
    let both = stacked columns others in
    let front : row_lines o both 0 n ≡ row_lines o columns 0 n =
    lines-alike o both columns 0 0 n (λ k inside. ap (line o) (cells-front o columns others n (0 + k) same have (omega (arith, inside)))) in
    let behind : row_lines o both (0 + n) m ≡ row_lines o others 0 m =
    lines-alike o both others (0 + n) 0 m
    (λ k inside. ap (row_line o both) (let same : 0 + n + k ≡ n + k = omega arith in same)
    ∙ ap (line o) (cells-behind o columns others n k same have)
    ∙ ap (row_line o others) (let same : k ≡ 0 + k = omega arith in same)) in
    ap (row_lines o both 0) (height-stacked columns others same) ∙ row_lines-both o both 0 n m ∙ (λ j. front j ++ behind j)

-- ---- several batches

pub schema-stacked : (columns others : List ColumnValue) → HaveSameColumns columns others → schema_of (stacked columns others) ≡ schema_of columns
schema-stacked [] others same = refl
schema-stacked (c ∷ cs) [] same = absurd (cc)
schema-stacked (c ∷ cs) (x ∷ xs) same = ap (λ l. (c.name, c.dtype) ∷ l) (schema-stacked cs xs (same-rest c x cs xs same))

-- the lines of the rows of batches that are put behind columns
pub lines-batches : (o : WriteOptions) (schema : List Entry) (columns : List ColumnValue) (batches : List (List ColumnValue)) → HaveSchema schema columns → HaveHeight (height_of columns) columns
    → All (HaveSchema schema) batches → All IsFrame batches → all_lines o (all_stacked columns batches) ≡ all_lines o columns ++ flat_map (all_lines o) batches
lines-batches o schema columns [] has level have frames = sym (append-nil (all_lines o columns))
lines-batches o schema columns (batch ∷ batches) has level have frames =
    let same : HaveSameColumns columns batch = has ∙ sym (All-head (HaveSchema schema) batch batches have) in
    let both = stacked columns batch in
    let next = level-stacked columns batch same level (All-head IsFrame batch batches frames).one_height in
    lines-batches o schema both batches (schema-stacked columns batch same ∙ has) next (All-tail (HaveSchema schema) batch batches have) (All-tail IsFrame batch batches frames)
    ∙ ap (λ l. l ++ flat_map (all_lines o) batches) (lines-stacked o columns batch same level)
    ∙ append_assoc (all_lines o columns) (all_lines o batch) (flat_map (all_lines o) batches)

-- they have the names and types of the columns
pub schema-batches : (schema : List Entry) (columns : List ColumnValue) (batches : List (List ColumnValue)) → HaveSchema schema columns → All (HaveSchema schema) batches
    → HaveSchema schema (all_stacked columns batches)
schema-batches schema columns [] has have = has
schema-batches schema columns (batch ∷ batches) has have =
    schema-batches schema (stacked columns batch) batches
    (schema-stacked columns batch (has ∙ sym (All-head (HaveSchema schema) batch batches have)) ∙ has)
    (All-tail (HaveSchema schema) batch batches have)

names-schema : (columns : List ColumnValue) → names_of columns ≡ names_in (schema_of columns)
names-schema [] = refl
names-schema (c ∷ cs) = ap (λ l. c.name ∷ l) (names-schema cs)

pub names-are : (schema : List Entry) (columns : List ColumnValue) → HaveSchema schema columns → names_of columns ≡ names_in schema
names-are schema columns has = names-schema columns ∙ ap names_in has

-- columns without rows have no lines
pub lines-empty : (o : WriteOptions) (schema : List Entry) → all_lines o (empty_columns schema) ≡ []
lines-empty o [] = refl
lines-empty o (entry ∷ schema) = refl

-- they have one height, as all columns without rows
pub level-empty : (schema : List Entry) → HaveHeight (height_of (empty_columns schema)) (empty_columns schema)
level-empty [] = tt
level-empty (entry ∷ schema) = (refl, none schema)
  where
    none : (schema : List Entry) → HaveHeight 0 (empty_columns schema)
    none [] = tt
    none (entry ∷ schema) = (refl, none schema)

-- ---- the text of batches

-- sinks that had received the same have received the same behind the same
pub same-behind : (a b x y : Option (List ℕ)) (received s t : List ℕ) → a ≡ Some received → b ≡ Some received → s ≡ t → Appends a x s → Appends b y t → x ≡ y
same-behind None b x y received s t e f same p q = absurd (cc)
same-behind (Some r) None x y received s t e f same p q = absurd (cc)
same-behind (Some r) (Some u) None y received s t e f same p q = absurd p
same-behind (Some r) (Some u) (Some v) None received s t e f same p q = absurd q
same-behind (Some r) (Some u) (Some v) (Some w) received s t e f same p q =
    let first : r ≡ u = cc in
    ap Some (p ∙ (λ j. first j ++ same j) ∙ sym q)
