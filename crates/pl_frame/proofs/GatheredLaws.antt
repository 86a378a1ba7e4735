-- Laws of cells that are gathered for a column.
use Rattle.std.proofs.Common.{◌≡◌, ℕ, ℤ, zero, suc, ◌+◌, ◌-◌, ◌<◌, ◌≤◌, Bool, true, false, not, ◌&&◌, if◌then◌else◌, List, [], ◌∷◌, ◌++◌, length, map, take, drop, replicate, get_or, nat_lt, slice_get, unwrap_or, Option, None, Some, is_some, refl, sym, ◌∙◌, ap, subst, arith, true≢false, append_assoc}
use Rattle.std.specs.Option.{option_map, option_map_or}
use Rattle.std.specs.Str.{is_utf8}
use borrow.Author.Tests.{ltb-true, ltb-false}
use Rattle.std.proofs.lemmas.List.{map_push, get_or_append_left, get_or_push, length_push, replicate_more, take_more, get_or-drop, length-drop}
use Rattle.std.proofs.lemmas.List.Folds.{list_any_at}
use Rattle.pl_frame.specs.declared.data_type.DataType.{DataType}
use Rattle.pl_frame.specs.declared.data_type.DataType.TheVariants as dtype
use Rattle.pl_frame.specs.Categories.{AreCodes, code_of, decoded, dictionary_of}
use Rattle.pl_frame.specs.Columns.{number_cells, text_cells, text_in, is_boolean, is_number, is_enum, categories_of, code_at, misfits, HoldsType}
use Rattle.pl_frame.specs.Frame.{Scalar, Truth, Number, Letters, ColumnValue, cell_at}
use Rattle.pl_frame.specs.FrameParts.{kept_of}
use Rattle.pl_frame.specs.GatheredCells.{truth_in, whole_in, is_narrow_type}
use Rattle.pl_frame.specs.Types.{Range, range_of, is_within, is_outside, is_narrow, signed_range}
use Rattle.pl_frame.proofs.AlikeLaws.{cell_is}
use Rattle.pl_frame.proofs.CastLaws.{numbers_only, place_cast, cell_kept}
use Rattle.pl_frame.proofs.CategoryLaws.{codes-push, decoded-push, text_for}
use Rattle.pl_frame.proofs.CellLaws.{narrow_one}
use Rattle.pl_frame.proofs.ColumnLaws.{position-nowhere, true_from_not}
use Rattle.pl_frame.proofs.SchemaLaws.{none_passes}

-- ---- which cells are values of the type

-- where none misfits, none does in a row
pub cell_fits : (type : DataType) (values : List (Option Scalar)) (i : ℕ) → HoldsType type values → i < length values → misfits type (unwrap_or (slice_get values i) None) ≡ false
cell_fits type values i held l = ap (misfits type) (cell_is values i) ∙ by (misfits type (get_or values i None)) refl
  where
    by : (b : Bool) → misfits type (get_or values i None) ≡ b → misfits type (get_or values i None) ≡ false
    by false e = e
    by true e = let seen = list_any_at (misfits type) values i None l e in let unseen = none_passes (misfits type) values held in absurd (cc)

pub get_fits : (type : DataType) (values : List (Option Scalar)) (k : ℕ) → HoldsType type values → k < length values → misfits type (get_or values k None) ≡ false
get_fits type values k held l = ap (misfits type) (sym (cell_is values k)) ∙ cell_fits type values k held l

-- one value of the type more
pub held_more : (type : DataType) (old new : List (Option Scalar)) (cell : Option Scalar) → HoldsType type old → new ≡ old ++ cell ∷ [] → misfits type cell ≡ false → HoldsType type new
held_more type old new cell held e fits = subst (HoldsType type) (sym e) (position-nowhere (misfits type) (old ++ cell ∷ []) None each)
  where
    each : (k : ℕ) → k < length (old ++ cell ∷ []) → misfits type (get_or (old ++ cell ∷ []) k None) ≡ false
    each k l = by (nat_lt k (length old)) refl
      where
        by : (b : Bool) → nat_lt k (length old) ≡ b → misfits type (get_or (old ++ cell ∷ []) k None) ≡ false
        by true e = let h = ltb-true k (length old) e in ap (misfits type) (get_or_append_left old (cell ∷ []) None k h) ∙ get_fits type old k held h
        by false e =
            let h = ltb-false k (length old) e in let size = length_push old cell in
            let at : length old ≡ k = omega (arith, h, l, size) in
            ap (misfits type) (get_or_push old cell None k at) ∙ fits

-- ---- one cell more

cells_more : {X : Type 0} (F : X → Scalar) (xs new : List (Option X)) (x : Option X) (cell : Option Scalar) → new ≡ xs ++ x ∷ [] → option_map F x ≡ cell →
    map (option_map F) new ≡ map (option_map F) xs ++ cell ∷ []
cells_more F xs new x cell e is = ap (map (option_map F)) e ∙ map_push (option_map F) xs x ∙ ap (λ c. map (option_map F) xs ++ c ∷ []) is

absurd_true : {P : Type 0} → true ≡ false → P
absurd_true e = absurd (true≢false e)

-- a truth value
pub truth_more : (type : DataType) (xs new : List (Option Bool)) (x : Option Bool) (cell : Option Scalar) → type ≡ dtype.Boolean → misfits type cell ≡ false → x ≡ truth_in cell →
    new ≡ xs ++ x ∷ [] → map (option_map Truth) new ≡ map (option_map Truth) xs ++ cell ∷ []
truth_more type xs new x cell is fits from e = cells_more Truth xs new x cell e (ap (option_map Truth) from ∙ same cell (subst (λ t. misfits t cell ≡ false) is fits))
  where
    never : (b : Bool) → not (b && false) ≡ true
    never true = refl
    never false = refl

    same : (cell : Option Scalar) → misfits dtype.Boolean cell ≡ false → option_map Truth (truth_in cell) ≡ cell
    same None h = refl
    same (Some (Truth b)) h = refl
    same (Some (Number n)) h = absurd_true h
    same (Some (Letters t)) h = absurd_true (sym (never (is_utf8 t)) ∙ h)

whole_same : (type : DataType) (cell : Option Scalar) → is_number type ≡ true → misfits type cell ≡ false → option_map Number (whole_in cell) ≡ cell
whole_same type None number h = refl
whole_same type (Some (Truth b)) number h = absurd_true (sym (ap not (numbers_only type number).truths) ∙ h)
whole_same type (Some (Number n)) number h = refl
whole_same type (Some (Letters t)) number h = absurd_true (sym (ap (λ b. not (is_utf8 t && b)) ((numbers_only type number).texts t) ∙ never (is_utf8 t)) ∙ h)
  where
    never : (b : Bool) → not (b && false) ≡ true
    never true = refl
    never false = refl

-- a number
pub number_more : (type : DataType) (xs new : List (Option ℤ)) (x : Option ℤ) (cell : Option Scalar) → is_number type ≡ true → misfits type cell ≡ false → x ≡ whole_in cell →
    new ≡ xs ++ x ∷ [] → number_cells new ≡ number_cells xs ++ cell ∷ []
number_more type xs new x cell number fits from e = cells_more Number xs new x cell e (ap (option_map Number) from ∙ whole_same type cell number fits)

pub number_from_narrow : (type : DataType) → is_narrow_type type ≡ true → is_number type ≡ true
number_from_narrow type h = by (range_of type) h
  where
    by : (o : Option Range) → option_map_or is_narrow o false ≡ true → is_some o ≡ true
    by None e = absurd (true≢false (sym e))
    by (Some r) e = refl

-- a number of a narrow type fits 64 bits
pub narrow_fits : (type : DataType) (x : Option ℤ) (cell : Option Scalar) → is_narrow_type type ≡ true → misfits type cell ≡ false → x ≡ whole_in cell → is_outside (signed_range 64) x ≡ false
narrow_fits type x cell narrow fits from = ap (is_outside (signed_range 64)) from ∙ same cell fits
  where
    inside : (o : Option Range) (n : ℤ) → option_map_or is_narrow o false ≡ true → not (option_map_or (λ r. is_within r n) o false) ≡ false → not (is_within (signed_range 64) n) ≡ false
    inside None n h f = absurd (true≢false (sym h))
    inside (Some r) n h f = ap not (narrow_one r n h (true_from_not _ f))

    same : (cell : Option Scalar) → misfits type cell ≡ false → is_outside (signed_range 64) (whole_in cell) ≡ false
    same None h = refl
    same (Some (Truth b)) h = refl
    same (Some (Number n)) h = inside (range_of type) n narrow h
    same (Some (Letters t)) h = refl

-- a text
text_same : (type : DataType) (cell : Option Scalar) → is_boolean type ≡ false → range_of type ≡ None → misfits type cell ≡ false → option_map Letters (text_in cell) ≡ cell
text_same type None plain unnumbered h = refl
text_same type (Some (Truth b)) plain unnumbered h = absurd_true (sym (ap not plain) ∙ h)
text_same type (Some (Number n)) plain unnumbered h = absurd_true (sym (ap (λ r. not (option_map_or (λ r. is_within r n) r false)) unnumbered) ∙ h)
text_same type (Some (Letters t)) plain unnumbered h = refl

pub string_more : (type : DataType) (xs new : List (Option (List ℕ))) (cell : Option Scalar) → type ≡ dtype.String → misfits type cell ≡ false →
    new ≡ xs ++ text_in cell ∷ [] → text_cells new ≡ text_cells xs ++ cell ∷ []
string_more type xs new cell is fits e =
    cells_more Letters xs new (text_in cell) cell e (text_same type cell (ap is_boolean is) (ap range_of is) fits)

pub category_more : (type : DataType) (xs new : List (Option (List ℕ))) (cell : Option Scalar) → type ≡ dtype.Categorical → misfits type cell ≡ false →
    new ≡ xs ++ text_in cell ∷ [] → text_cells new ≡ text_cells xs ++ cell ∷ []
category_more type xs new cell is fits e =
    cells_more Letters xs new (text_in cell) cell e (text_same type cell (ap is_boolean is) (ap range_of is) fits)

-- a category of an enum
place_same : (type : DataType) (cell : Option Scalar) → is_enum type ≡ true → misfits type cell ≡ false →
    option_map Letters (text_for (categories_of type) (code_of (categories_of type) (text_in cell))) ≡ cell
place_same (dtype.Enum (Some categories)) cell enumerated h =
    place_cast (dtype.Enum (Some categories)) categories cell h ∙ sym (cell_kept (dtype.Enum (Some categories)) cell h)
place_same (dtype.Enum None) None enumerated h = refl
place_same (dtype.Enum None) (Some (Truth b)) enumerated h = absurd_true h
place_same (dtype.Enum None) (Some (Number n)) enumerated h = absurd_true h
place_same (dtype.Enum None) (Some (Letters t)) enumerated h = absurd_true (sym (never (is_utf8 t)) ∙ h)
  where
    never : (b : Bool) → not (b && false) ≡ true
    never true = refl
    never false = refl
place_same dtype.Boolean cell enumerated h = absurd (cc)
place_same dtype.Int8 cell enumerated h = absurd (cc)
place_same dtype.Int16 cell enumerated h = absurd (cc)
place_same dtype.Int32 cell enumerated h = absurd (cc)
place_same dtype.Int64 cell enumerated h = absurd (cc)
place_same dtype.Int128 cell enumerated h = absurd (cc)
place_same dtype.UInt8 cell enumerated h = absurd (cc)
place_same dtype.UInt16 cell enumerated h = absurd (cc)
place_same dtype.UInt32 cell enumerated h = absurd (cc)
place_same dtype.UInt64 cell enumerated h = absurd (cc)
place_same dtype.String cell enumerated h = absurd (cc)
place_same dtype.Categorical cell enumerated h = absurd (cc)
place_same dtype.Date cell enumerated h = absurd (cc)
place_same dtype.Time cell enumerated h = absurd (cc)
place_same (dtype.Datetime u) cell enumerated h = absurd (cc)
place_same (dtype.Decimal p s) cell enumerated h = absurd (cc)
place_same dtype.Null cell enumerated h = absurd (cc)

module _ (column : ColumnValue) (row : ℕ) (enumerated : is_enum column.dtype ≡ true) where
  code_is : code_at column row ≡ code_of (categories_of column.dtype) (text_in (cell_at column row))
  code_is = ap (λ b. code_of (if b then categories_of column.dtype else dictionary_of (map text_in column.values)) (text_in (cell_at column row))) enumerated

  module _ (xs new : List (Option ℕ)) (code : Option ℕ) (fits : misfits column.dtype (cell_at column row) ≡ false) (from : code ≡ code_at column row) (e : new ≡ xs ++ code ∷ []) where
    pub places_more : text_cells (decoded (categories_of column.dtype) new) ≡ text_cells (decoded (categories_of column.dtype) xs) ++ cell_at column row ∷ []
    places_more =
        cells_more Letters (decoded (categories_of column.dtype) xs) _ (text_for (categories_of column.dtype) code) (cell_at column row)
        (ap (decoded (categories_of column.dtype)) e ∙ decoded-push (categories_of column.dtype) xs code)
        (ap (λ c. option_map Letters (text_for (categories_of column.dtype) c)) (from ∙ code_is) ∙ place_same column.dtype (cell_at column row) enumerated fits)

    pub codes_more : AreCodes (categories_of column.dtype) xs → AreCodes (categories_of column.dtype) new
    codes_more are = subst (AreCodes (categories_of column.dtype)) (sym e) (codes-push (categories_of column.dtype) xs code are
        (ap (λ c. code_of (categories_of column.dtype) (text_for (categories_of column.dtype) c)) (from ∙ code_is)
        ∙ coded (text_for (categories_of column.dtype) (code_of (categories_of column.dtype) (text_in (cell_at column row)))) (place_same column.dtype (cell_at column row) enumerated fits)
        ∙ sym (from ∙ code_is)))
      where
        letters : (o : Option (List ℕ)) → text_in (option_map Letters o) ≡ o
        letters None = refl
        letters (Some t) = refl

        coded : (o : Option (List ℕ)) → option_map Letters o ≡ cell_at column row → code_of (categories_of column.dtype) o ≡ code_of (categories_of column.dtype) (text_in (cell_at column row))
        coded o same = ap (code_of (categories_of column.dtype)) (sym (letters o) ∙ ap text_in same)

-- a null
pub null_more : (type : DataType) (len more : ℕ) (cell : Option Scalar) → type ≡ dtype.Null → misfits type cell ≡ false → more ≡ len + 1 → replicate more None ≡ replicate len None ++ cell ∷ []
null_more type len more cell is fits e = ap (λ n. replicate n None) e ∙ sym (replicate_more len None) ∙ ap (λ c. replicate len None ++ c ∷ []) (sym (same cell (subst (λ t. misfits t cell ≡ false) is fits)))
  where
    never : (b : Bool) → not (b && false) ≡ true
    never true = refl
    never false = refl

    same : (cell : Option Scalar) → misfits dtype.Null cell ≡ false → cell ≡ None
    same None h = refl
    same (Some (Truth b)) h = absurd_true h
    same (Some (Number n)) h = absurd_true h
    same (Some (Letters t)) h = absurd_true (sym (never (is_utf8 t)) ∙ h)

-- ---- rows

-- one row more of those from one on
pub rows_more : (values start made new : List (Option Scalar)) (from row : ℕ) → from ≤ row → row < length values → made ≡ start ++ take (row - from) (drop from values) →
    new ≡ made ++ unwrap_or (slice_get values row) None ∷ [] → new ≡ start ++ take (row + 1 - from) (drop from values)
rows_more values start made new from row behind within before e =
    let inside : row - from < length (drop from values) = let size = length-drop from values in omega (arith, size, behind, within) in
    let next : row - from + 1 ≡ row + 1 - from = omega (arith, behind) in
    let here : from + (row - from) ≡ row = omega (arith, behind) in
    e ∙ (λ j. before j ++ (cell_is values row ∙ ap (λ n. get_or values n None) (sym here) ∙ sym (get_or-drop from values (row - from) None)) j ∷ [])
    ∙ append_assoc start (take (row - from) (drop from values)) (get_or (drop from values) (row - from) None ∷ [])
    ∙ ap (λ rest. start ++ rest) (sym (take_more (drop from values) (row - from) None inside) ∙ ap (λ n. take n (drop from values)) next)

-- one row more of those whose flag is set
kept_more : {X : Type 0} (flags : List Bool) (values : List X) (i : ℕ) (f : Bool) (d : X) → i < length flags → i < length values → f ≡ get_or flags i false →
    kept_of (take (suc i) flags) (take (suc i) values) ≡ kept_of (take i flags) (take i values) ++ (if f then get_or values i d ∷ [] else [])
kept_more [] values i f d l m e = absurd (omega arith)
kept_more (g ∷ gs) [] i f d l m e = absurd (omega arith)
kept_more (true ∷ gs) (v ∷ vs) zero f d l m e = ap (λ b. if b then v ∷ [] else []) (sym e)
kept_more (false ∷ gs) (v ∷ vs) zero f d l m e = ap (λ b. if b then v ∷ [] else []) (sym e)
kept_more (true ∷ gs) (v ∷ vs) (suc i) f d l m e = ap (λ rest. v ∷ rest) (kept_more gs vs i f d (omega arith) (omega arith) e)
kept_more (false ∷ gs) (v ∷ vs) (suc i) f d l m e = kept_more gs vs i f d (omega arith) (omega arith) e

pub flagged_more : (flags : List Bool) (values start made new : List (Option Scalar)) (row : ℕ) (flag : Bool) → length flags ≡ length values → row < length flags →
    flag ≡ get_or flags row false → made ≡ start ++ kept_of (take row flags) (take row values) →
    new ≡ made ++ (if flag then unwrap_or (slice_get values row) None ∷ [] else []) → new ≡ start ++ kept_of (take (row + 1) flags) (take (row + 1) values)
flagged_more flags values start made new row flag one_length within at before e =
    let next : suc row ≡ row + 1 = omega arith in
    e ∙ (λ j. before j ++ (if flag then cell_is values row j ∷ [] else []))
    ∙ append_assoc start (kept_of (take row flags) (take row values)) (if flag then get_or values row None ∷ [] else [])
    ∙ ap (λ rest. start ++ rest) (sym (kept_more flags values row flag None within (omega (arith, within, one_length)) at))
    ∙ ap (λ n. start ++ kept_of (take n flags) (take n values)) next
