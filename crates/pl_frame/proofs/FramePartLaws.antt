-- Laws of parts of frames, and of frames that are put together.
use Rattle.std.proofs.Common.{◌≡◌, ◌≢◌, ℕ, pos, zero, suc, ◌+◌, ◌-◌, ◌<◌, ◌≤◌, Bool, true, false, ◌&&◌, min, nat_lt, List, [], ◌∷◌, ◌++◌, length, take, drop, map, get_or, slice_get, option_to_list, Option, Some, AllPairs, refl, sym, ◌∙◌, ap, subst, arith, append_assoc, true≢false}
use Rattle.std.specs.Bool.{Decides}
use Rattle.std.specs.List.{AllByRecursion}
use Rattle.std.specs.Str.{bytes_eq}
use Rattle.std.specs.Cmp.Lexicographic.{pointwise, pointwise_decides, bytes_decides}
use borrow.Author.Tests.{ltb-true, ltb-false}
use Rattle.std.proofs.lemmas.List.{length-take, length-drop, length-append, length-map, get_or-map, get_or_default}
use Rattle.std.proofs.lemmas.List.Folds.{list_any_at}
use Rattle.std.proofs.lemmas.List.FromFn.{length-map-range_with_len}
use Rattle.std.proofs.lemmas.List.Kept.{AllPairs-cons}
use Rattle.std.proofs.lemmas.Option.{slice_get-get_or}
use Rattle.pl_frame.specs.declared.data_type.DataType.TheVariants as dtype
use Rattle.pl_frame.specs.Equal.{types_equal, entries_equal}
use Rattle.pl_frame.specs.EqualLaws.{types_decide}
use Rattle.pl_frame.specs.Frame.{Scalar, Number, ColumnValue, IsFrame, HaveHeight, height_of, names_of}
use Rattle.pl_frame.specs.FrameParts.{with_values, sliced, kept_of, filtered, schema_of, HaveSameColumns, stacked, empty_columns, columns_at, AreDistinctPlaces, AreWithin, has_name}
use Rattle.pl_frame.specs.RowIndex.{row_index_column}
use Rattle.pl_frame.specs.Schema.{Entry, names_in, HaveDistinctNames}
use Rattle.pl_frame.proofs.AlikeLaws.{pointwise-map, pointwise-all, pointwise-differ}

-- a column to stand for none
abbrev pub no_column : ColumnValue
no_column = record { name = []; dtype = dtype.Null; values = [] }

-- two columns have the same name and type
abbrev pub same_entry : ColumnValue → ColumnValue → Bool
same_entry a b = entries_equal (a.name, a.dtype) (b.name, b.dtype)

-- columns that have a height have that of the first
level : (n : ℕ) (columns : List ColumnValue) → HaveHeight n columns → HaveHeight (height_of columns) columns
level n [] h = tt
level n (c ∷ cs) h = subst (λ m. HaveHeight m (c ∷ cs)) (sym h.0) h

-- ---- columns whose values are changed alike

module _ (f : List (Option Scalar) → List (Option Scalar)) (alike : (a b : List (Option Scalar)) → length a ≡ length b → length (f a) ≡ length (f b)) where
  names_changed : (columns : List ColumnValue) → names_of (map (λ column. with_values column (f column.values)) columns) ≡ names_of columns
  names_changed [] = refl
  names_changed (c ∷ cs) = ap (λ l. c.name ∷ l) (names_changed cs)

  heights_changed : (values : List (Option Scalar)) (columns : List ColumnValue) → HaveHeight (length values) columns →
      HaveHeight (length (f values)) (map (λ column. with_values column (f column.values)) columns)
  heights_changed values [] h = tt
  heights_changed values (c ∷ cs) h = (alike c.values values h.0, heights_changed values cs h.1)

  one_height_changed : (columns : List ColumnValue) → HaveHeight (height_of columns) columns →
      HaveHeight (height_of (map (λ column. with_values column (f column.values)) columns)) (map (λ column. with_values column (f column.values)) columns)
  one_height_changed [] h = tt
  one_height_changed (c ∷ cs) h = heights_changed c.values (c ∷ cs) h

  frame_changed : (columns : List ColumnValue) → IsFrame columns → IsFrame (map (λ column. with_values column (f column.values)) columns)
  frame_changed columns frame = record {
    one_height = one_height_changed columns frame.one_height;
    distinct = subst (AllPairs (λ a b. a ≢ b)) (sym (names_changed columns)) frame.distinct;
  }

length-part : (offset count : ℕ) (a b : List (Option Scalar)) → length a ≡ length b → length (take count (drop offset a)) ≡ length (take count (drop offset b))
length-part offset count a b e =
    length-take count (drop offset a) ∙ ap (min count) (length-drop offset a ∙ ap (λ n. n - offset) e ∙ sym (length-drop offset b)) ∙ sym (length-take count (drop offset b))

length-kept : (flags : List Bool) (a b : List (Option Scalar)) → length a ≡ length b → length (kept_of flags a) ≡ length (kept_of flags b)
length-kept [] a b e = refl
length-kept (f ∷ fs) [] [] e = refl
length-kept (f ∷ fs) [] (y ∷ ys) e = absurd (omega arith)
length-kept (f ∷ fs) (x ∷ xs) [] e = absurd (omega arith)
length-kept (true ∷ fs) (x ∷ xs) (y ∷ ys) e = ap suc (length-kept fs xs ys (omega arith))
length-kept (false ∷ fs) (x ∷ xs) (y ∷ ys) e = length-kept fs xs ys (omega arith)

pub frame_sliced : (offset count : ℕ) (columns made : List ColumnValue) → made ≡ sliced offset count columns → IsFrame columns → IsFrame made
frame_sliced offset count columns made e frame =
    subst IsFrame (sym e) (frame_changed (λ values. take count (drop offset values)) (length-part offset count) columns frame)

pub frame_filtered : (flags : List Bool) (columns made : List ColumnValue) → made ≡ filtered flags columns → IsFrame columns → IsFrame made
frame_filtered flags columns made e frame = subst IsFrame (sym e) (frame_changed (kept_of flags) (length-kept flags) columns frame)

-- ---- rows behind others

first_same : (a b : Entry) (xs ys : List Entry) → a ∷ xs ≡ b ∷ ys → (a ≡ b) × (xs ≡ ys)
first_same a b xs ys e = (cc, cc)

names_stacked : (columns others : List ColumnValue) → HaveSameColumns columns others → names_of (stacked columns others) ≡ names_of columns
names_stacked [] others e = refl
names_stacked (c ∷ cs) [] e = absurd (cc)
names_stacked (c ∷ cs) (o ∷ os) e = ap (λ l. c.name ∷ l) (names_stacked cs os (first_same _ _ _ _ e).1)

heights_stacked : (n m : ℕ) (columns others : List ColumnValue) → HaveHeight n columns → HaveHeight m others → HaveHeight (n + m) (stacked columns others)
heights_stacked n m [] others h k = tt
heights_stacked n m (c ∷ cs) [] h k = tt
heights_stacked n m (c ∷ cs) (o ∷ os) h k = (length-append c.values o.values ∙ (λ j. h.0 j + k.0 j), heights_stacked n m cs os h.1 k.1)

pub frame_stacked : (columns others made : List ColumnValue) → made ≡ stacked columns others → HaveSameColumns columns others → IsFrame columns → IsFrame others → IsFrame made
frame_stacked columns others made e same frame other = subst IsFrame (sym e) record {
  one_height = level _ _ (heights_stacked (height_of columns) (height_of others) columns others frame.one_height other.one_height);
  distinct = subst (AllPairs (λ a b. a ≢ b)) (sym (names_stacked columns others same)) frame.distinct;
}

-- the columns at a place have one type
pub type_same : (columns others : List ColumnValue) (i : ℕ) (column other : ColumnValue) → HaveSameColumns columns others → i < length columns →
    column ≡ get_or columns i column → other ≡ get_or others i other → other.dtype ≡ column.dtype
type_same [] others i column other same l at there = absurd (omega arith)
type_same (c ∷ cs) [] i column other same l at there = absurd (cc)
type_same (c ∷ cs) (o ∷ os) zero column other same l at there =
    ap (λ c. c.dtype) there ∙ sym (ap (λ entry. entry.1) (first_same _ _ _ _ same).0) ∙ sym (ap (λ c. c.dtype) at)
type_same (c ∷ cs) (o ∷ os) (suc i) column other same l at there = type_same cs os i column other (first_same _ _ _ _ same).1 (omega arith) at there

stacked_step : (columns others : List ColumnValue) (i : ℕ) (column other : ColumnValue) → HaveSameColumns columns others → i < length columns →
    column ≡ get_or columns i column → other ≡ get_or others i other →
    stacked (take (suc i) columns) (take (suc i) others) ≡ stacked (take i columns) (take i others) ++ with_values column (column.values ++ other.values) ∷ []
stacked_step [] others i column other same l at there = absurd (omega arith)
stacked_step (c ∷ cs) [] i column other same l at there = absurd (cc)
stacked_step (c ∷ cs) (o ∷ os) zero column other same l at there = λ j. with_values (sym at j) ((sym at j).values ++ (sym there j).values) ∷ []
stacked_step (c ∷ cs) (o ∷ os) (suc i) column other same l at there =
    ap (λ rest. with_values c (c.values ++ o.values) ∷ rest) (stacked_step cs os i column other (first_same _ _ _ _ same).1 (omega arith) at there)

-- one column more
pub stacked_more : (columns others made new : List ColumnValue) (i : ℕ) (column other joined : ColumnValue) → HaveSameColumns columns others → i < length columns →
    column ≡ get_or columns i column → other ≡ get_or others i other → joined ≡ with_values column (column.values ++ other.values) →
    made ≡ stacked (take i columns) (take i others) → new ≡ made ++ joined ∷ [] → new ≡ stacked (take (i + 1) columns) (take (i + 1) others)
stacked_more columns others made new i column other joined same l at there is before e =
    let next : suc i ≡ i + 1 = omega arith in
    e ∙ (λ j. before j ++ is j ∷ []) ∙ sym (stacked_step columns others i column other same l at there) ∙ ap (λ n. stacked (take n columns) (take n others)) next

-- ---- the same names and types

entries_of : (columns others : List ColumnValue) → pointwise same_entry columns others ≡ pointwise entries_equal (schema_of columns) (schema_of others)
entries_of columns others = pointwise-map (λ (c : ColumnValue). (c.name, c.dtype)) same_entry entries_equal (λ a b. refl) columns others

pub entries_all : (columns others : List ColumnValue) → length columns ≡ length others →
    ((k : ℕ) → k < length columns → same_entry (get_or columns k no_column) (get_or others k no_column) ≡ true) → true ≡ pointwise entries_equal (schema_of columns) (schema_of others)
entries_all columns others n each = sym (pointwise-all same_entry no_column columns others n each) ∙ entries_of columns others

pub entries_differ : (columns others : List ColumnValue) (i : ℕ) → i < length columns → i < length others →
    same_entry (get_or columns i no_column) (get_or others i no_column) ≡ false → false ≡ pointwise entries_equal (schema_of columns) (schema_of others)
entries_differ columns others i l m e = sym (pointwise-differ same_entry no_column columns others i l m e) ∙ entries_of columns others

-- what the test of two columns at a place tells
pub entry_told : (columns others : List ColumnValue) (i : ℕ) (column other : ColumnValue) (told : Bool) → i < length columns → i < length others →
    column ≡ get_or columns i column → other ≡ get_or others i other → told ≡ same_entry column other → same_entry (get_or columns i no_column) (get_or others i no_column) ≡ told
entry_told columns others i column other told l m at there e =
    sym (e ∙ (λ j. same_entry ((at ∙ get_or_default columns i column no_column l) j) ((there ∙ get_or_default others i other no_column m) j)))

entries_decide : (a b : Entry) → Decides (entries_equal a b) (a ≡ b)
entries_decide a b = (to, from)
  where
    both : (x y : Bool) → (x && y) ≡ true → (x ≡ true) × (y ≡ true)
    both true y e = (refl, e)
    both false y e = absurd (true≢false (sym e))

    to : entries_equal a b ≡ true → a ≡ b
    to e = let h = both (bytes_eq a.0 b.0) (types_equal a.1 b.1) e in (λ j. ((bytes_decides a.0 b.0).0 h.0 j, (types_decide a.1 b.1).0 h.1 j))

    from : a ≡ b → entries_equal a b ≡ true
    from e = λ j. (bytes_decides a.0 b.0).1 (ap (λ x. x.0) e) j && (types_decide a.1 b.1).1 (ap (λ x. x.1) e) j

pub same_columns_told : (columns others : List ColumnValue) (told : Bool) → told ≡ pointwise entries_equal (schema_of columns) (schema_of others) → Decides told (HaveSameColumns columns others)
same_columns_told columns others told e =
    subst (λ b. Decides b (HaveSameColumns columns others)) (sym e) (pointwise_decides entries_decide (schema_of columns) (schema_of others))

-- ---- columns without rows

entries_step : (entries : List Entry) (i : ℕ) (entry : Entry) → slice_get entries i ≡ Some entry →
    empty_columns (take (suc i) entries) ≡ empty_columns (take i entries) ++ record { name = entry.0; dtype = entry.1; values = [] } ∷ []
entries_step [] i entry at = absurd (cc)
entries_step (x ∷ xs) zero entry at = ap (λ (y : Entry). record { name = y.0; dtype = y.1; values = [] } ∷ []) (some_same x entry at)
  where
    some_same : (x y : Entry) → Some x ≡ Some y → x ≡ y
    some_same x y e = cc
entries_step (x ∷ xs) (suc i) entry at = ap (λ rest. record { name = x.0; dtype = x.1; values = [] } ∷ rest) (entries_step xs i entry at)

pub empty_more : (entries : List Entry) (made new : List ColumnValue) (i : ℕ) (entry : Entry) (column : ColumnValue) → slice_get entries i ≡ Some entry →
    column ≡ record { name = entry.0; dtype = entry.1; values = [] } → made ≡ empty_columns (take i entries) → new ≡ made ++ column ∷ [] → new ≡ empty_columns (take (i + 1) entries)
empty_more entries made new i entry column at is before e =
    let next : suc i ≡ i + 1 = omega arith in
    e ∙ (λ j. before j ++ is j ∷ []) ∙ sym (entries_step entries i entry at) ∙ ap (λ n. empty_columns (take n entries)) next

heights_empty : (entries : List Entry) → HaveHeight 0 (empty_columns entries)
heights_empty [] = tt
heights_empty (x ∷ xs) = (refl, heights_empty xs)

names_empty : (entries : List Entry) → names_of (empty_columns entries) ≡ names_in entries
names_empty [] = refl
names_empty (x ∷ xs) = ap (λ l. x.0 ∷ l) (names_empty xs)

pub frame_empty : (entries : List Entry) (made : List ColumnValue) → made ≡ empty_columns entries → HaveDistinctNames entries → IsFrame made
frame_empty entries made e distinct = subst IsFrame (sym e) record {
  one_height = level 0 (empty_columns entries) (heights_empty entries);
  distinct = subst (AllPairs (λ a b. a ≢ b)) (sym (names_empty entries)) distinct;
}

-- ---- columns at places

places_step : (places : List ℕ) (columns : List ColumnValue) (i : ℕ) (column : ColumnValue) → i < length places → slice_get columns (get_or places i 0) ≡ Some column →
    columns_at (take (suc i) places) columns ≡ columns_at (take i places) columns ++ column ∷ []
places_step [] columns i column l at = absurd (omega arith)
places_step (p ∷ ps) columns zero column l at = ap (λ o. option_to_list o ++ []) at
places_step (p ∷ ps) columns (suc i) column l at =
    ap (λ rest. option_to_list (slice_get columns p) ++ rest) (places_step ps columns i column (omega arith) at)
    ∙ sym (append_assoc (option_to_list (slice_get columns p)) (columns_at (take i ps) columns) (column ∷ []))

pub places_more : (places : List ℕ) (columns made new : List ColumnValue) (i : ℕ) (column copy : ColumnValue) → i < length places → get_or places i 0 < length columns →
    column ≡ get_or columns (get_or places i 0) column → copy ≡ column → made ≡ columns_at (take i places) columns → new ≡ made ++ copy ∷ [] →
    new ≡ columns_at (take (i + 1) places) columns
places_more places columns made new i column copy l within at is before e =
    let next : suc i ≡ i + 1 = omega arith in
    let there : slice_get columns (get_or places i 0) ≡ Some column = slice_get-get_or columns (get_or places i 0) column within ∙ ap Some (sym at) in
    e ∙ (λ j. before j ++ is j ∷ []) ∙ sym (places_step places columns i column l there) ∙ ap (λ n. columns_at (take n places) columns) next

-- each of the places has a column
columns_are : (places : List ℕ) (columns : List ColumnValue) → AreWithin places columns → columns_at places columns ≡ map (λ p. get_or columns p no_column) places
columns_are [] columns within = refl
columns_are (p ∷ ps) columns within = (λ j. option_to_list (slice_get-get_or columns p no_column within.0 j) ++ columns_are ps columns within.1 j)

pub within_at : (places : List ℕ) (columns : List ColumnValue) (i : ℕ) → AreWithin places columns → i < length places → get_or places i 0 < length columns
within_at [] columns i within l = absurd (omega arith)
within_at (p ∷ ps) columns zero within l = within.0
within_at (p ∷ ps) columns (suc i) within l = within_at ps columns i within.1 (omega arith)

height_at : (n : ℕ) (columns : List ColumnValue) (i : ℕ) → HaveHeight n columns → i < length columns → length (get_or columns i no_column).values ≡ n
height_at n [] i h l = absurd (omega arith)
height_at n (c ∷ cs) zero h l = h.0
height_at n (c ∷ cs) (suc i) h l = height_at n cs i h.1 (omega arith)

heights_at : (n : ℕ) (places : List ℕ) (columns : List ColumnValue) → HaveHeight n columns → AreWithin places columns → HaveHeight n (map (λ p. get_or columns p no_column) places)
heights_at n [] columns h within = tt
heights_at n (p ∷ ps) columns h within = (height_at n columns p h within.0, heights_at n ps columns h within.1)

name_at : (places : List ℕ) (columns : List ColumnValue) (i : ℕ) (d : List ℕ) → i < length places →
    get_or (names_of (map (λ p. get_or columns p no_column) places)) i d ≡ (get_or columns (get_or places i 0) no_column).name
name_at [] columns i d l = absurd (omega arith)
name_at (p ∷ ps) columns zero d l = refl
name_at (p ∷ ps) columns (suc i) d l = name_at ps columns i d (omega arith)

-- columns at two places have different names
names_differ : (columns : List ColumnValue) (p q : ℕ) → IsFrame columns → p < length columns → q < length columns → p ≢ q →
    (get_or columns p no_column).name ≢ (get_or columns q no_column).name
names_differ columns p q frame l m differ same = by (nat_lt p q) refl
  where
    named : (k : ℕ) → k < length columns → get_or (names_of columns) k [] ≡ (get_or columns k no_column).name
    named k h = get_or-map (λ (c : ColumnValue). c.name) columns k no_column [] h

    size : length (names_of columns) ≡ length columns
    size = length-map columns (λ (c : ColumnValue). c.name)

    by : (b : Bool) → nat_lt p q ≡ b → ⊥
    by true e = frame.distinct p q [] (ltb-true p q e) (omega (arith, m, size)) (named p l ∙ same ∙ sym (named q m))
    by false e =
        let h = ltb-false p q e in
        let less : q < p = lower (nat_lt q p) refl h in
        frame.distinct q p [] less (omega (arith, l, size)) (named q m ∙ sym same ∙ sym (named p l))
      where
        lower : (b : Bool) → nat_lt q p ≡ b → q ≤ p → q < p
        lower true e h = ltb-true q p e
        lower false e h = let k = ltb-false q p e in absurd (differ (omega (arith, h, k)))

differs_at : (place : ℕ) (places : List ℕ) (i : ℕ) → AllByRecursion (λ other. place ≢ other) places → i < length places → place ≢ get_or places i 0
differs_at place [] i differ l = absurd (omega arith)
differs_at place (p ∷ ps) zero differ l = differ.0
differs_at place (p ∷ ps) (suc i) differ l = differs_at place ps i differ.1 (omega arith)

places_differ : (places : List ℕ) (i j : ℕ) → AreDistinctPlaces places → i < j → j < length places → get_or places i 0 ≢ get_or places j 0
places_differ [] i j differ l m = absurd (omega arith)
places_differ (p ∷ ps) i zero differ l m = absurd (omega arith)
places_differ (p ∷ ps) zero (suc j) differ l m = differs_at p ps j differ.0 (omega arith)
places_differ (p ∷ ps) (suc i) (suc j) differ l m = places_differ ps i j differ.1 (omega arith) (omega arith)

pub frame_at : (places : List ℕ) (columns made : List ColumnValue) → made ≡ columns_at places columns → AreWithin places columns → AreDistinctPlaces places → IsFrame columns →
    IsFrame made
frame_at places columns made e within differ frame = subst IsFrame (sym (e ∙ columns_are places columns within)) record {
  one_height = level (height_of columns) _ (heights_at (height_of columns) places columns frame.one_height within);
  distinct = apart;
}
  where
    size : length (names_of (map (λ p. get_or columns p no_column) places)) ≡ length places
    size = length-map (map (λ p. get_or columns p no_column) places) (λ (c : ColumnValue). c.name) ∙ length-map places (λ p. get_or columns p no_column)

    apart : AllPairs (λ a b. a ≢ b) (names_of (map (λ p. get_or columns p no_column) places))
    apart i j d l m same =
        let j_in : j < length places = omega (arith, m, size) in
        let i_in : i < length places = omega (arith, l, j_in) in
        names_differ columns (get_or places i 0) (get_or places j 0) frame (within_at places columns i within i_in) (within_at places columns j within j_in) (places_differ places i j differ l j_in)
        (sym (name_at places columns i d i_in) ∙ same ∙ name_at places columns j d j_in)

-- ---- a column of row numbers in front

pub frame_numbered : (columns : List ColumnValue) (name : List ℕ) (offset rows : ℕ) (column : ColumnValue) → column ≡ row_index_column name offset rows → rows ≡ height_of columns →
    has_name columns name ≡ false → IsFrame columns → IsFrame (column ∷ columns)
frame_numbered columns name offset rows column is tall absent frame = subst (λ c. IsFrame (c ∷ columns)) (sym is) record {
  one_height = level rows (row_index_column name offset rows ∷ columns)
      (length-map-range_with_len (λ n. Some (Number (pos n))) offset rows, subst (λ n. HaveHeight n columns) (sym tall) frame.one_height);
  distinct = AllPairs-cons (λ a b. a ≢ b) name (names_of columns) other frame.distinct;
}
  where
    other : (k : ℕ) (d : List ℕ) → k < length (names_of columns) → name ≡ get_or (names_of columns) k d → ⊥
    other k d l same =
        let within : k < length columns = let size = length-map columns (λ (c : ColumnValue). c.name) in omega (arith, l, size) in
        let named : get_or (names_of columns) k d ≡ (get_or columns k no_column).name = get_or-map (λ (c : ColumnValue). c.name) columns k no_column d within in
        true≢false (sym (list_any_at (λ (c : ColumnValue). bytes_eq c.name name) columns k no_column within ((bytes_decides _ _).1 (sym (same ∙ named)))) ∙ absent)
