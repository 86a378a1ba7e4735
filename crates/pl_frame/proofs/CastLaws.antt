-- Laws of casts.
use Rattle.std.proofs.Common.{◌≡◌, ℕ, ℤ, suc, zero, ◌+◌, ◌<◌, Bool, true, false, not, ◌&&◌, ◌||◌, if◌then◌else◌, List, [], ◌∷◌, ◌++◌, length, map, take, position, get_or, slice_get, Option, None, Some, is_some, refl, sym, ◌∙◌, ap, subst, true≢false, unwrap_or}
use Rattle.std.specs.List.{list_any}
use Rattle.std.specs.Option.{option_map, option_map_or}
use Rattle.std.specs.Str.{bytes_eq, is_utf8}
use Rattle.std.proofs.lemmas.List.{map-append, take_more}
use Rattle.pl_frame.specs.declared.data_type.DataType.{DataType}
use Rattle.pl_frame.specs.declared.data_type.DataType.TheVariants as dtype
use Rattle.pl_frame.specs.Casts.{cast_value, cast_column, number_in}
use Rattle.pl_frame.specs.Categories.{code_of, decoded, AreCodes}
use Rattle.pl_frame.specs.Columns.{number_cells, text_cells, text_in, is_boolean, is_number, is_text_of, is_value_of, misfits, HoldsType}
use Rattle.pl_frame.specs.Frame.{Scalar, Truth, Number, Letters, ColumnValue}
use Rattle.pl_frame.specs.Types.{Range, range_of, is_within}
use Rattle.pl_frame.proofs.AlikeLaws.{cell_is}
use Rattle.pl_frame.proofs.CategoryLaws.{known, text_at_place, text_for}
use Rattle.pl_frame.proofs.CellLaws.{cell_of}
use Rattle.pl_frame.proofs.ColumnLaws.{position-nowhere, true_from_not}
use Rattle.pl_frame.proofs.SchemaLaws.{none_passes}

-- one row more of a list that is made row by row
pub row_more : {Y : Type 0} (f : Option Scalar → Y) (values : List (Option Scalar)) (made new : List Y) (i : ℕ) (v : Option Scalar) (y : Y) → i < length values →
    made ≡ map f (take i values) → v ≡ unwrap_or (slice_get values i) None → y ≡ f v → new ≡ made ++ y ∷ [] → new ≡ map f (take (i + 1) values)
row_more f values made new i v y l before at is e =
    e ∙ ap (λ m. m ++ y ∷ []) before ∙ ap (λ z. map f (take i values) ++ z ∷ []) (is ∙ ap f (at ∙ cell_is values i))
    ∙ sym (map-append f (take i values) (get_or values i None ∷ [])) ∙ ap (map f) (sym (take_more values i None l))

-- the cell of a row of numbers
pub number_cell : (numbers : List (Option ℤ)) (i : ℕ) (number : Option ℤ) → slice_get numbers i ≡ Some number → option_map Number number ≡ unwrap_or (slice_get (number_cells numbers) i) None
number_cell numbers i number at = ap (option_map Number) (ap (λ o. unwrap_or o None) (sym at)) ∙ sym (cell_of Number numbers i)

-- ---- what a cast gives is of the type

misfits-cast : (to : DataType) (v : Option Scalar) → misfits to (cast_value to v) ≡ false
misfits-cast to None = refl
misfits-cast to (Some x) = by (is_value_of to x) refl
  where
    by : (b : Bool) → is_value_of to x ≡ b → misfits to (if is_value_of to x then Some x else None) ≡ false
    by true e = ap (λ b. misfits to (if b then Some x else None)) e ∙ ap not e
    by false e = ap (λ b. misfits to (if b then Some x else None)) e

pub cast_holds : (to : DataType) (values : List (Option Scalar)) → HoldsType to (map (cast_value to) values)
cast_holds to values =
    position-nowhere (misfits to) (map (cast_value to) values) None
    (λ k l. ap (misfits to) (get_or_mapped (cast_value to) refl values k) ∙ misfits-cast to (get_or values k None))
  where
    get_or_mapped : (f : Option Scalar → Option Scalar) → f None ≡ None → (xs : List (Option Scalar)) (k : ℕ) → get_or (map f xs) k None ≡ f (get_or xs k None)
    get_or_mapped f e [] k = sym e
    get_or_mapped f e (x ∷ xs) zero = refl
    get_or_mapped f e (x ∷ xs) (suc k) = get_or_mapped f e xs k

pub held_as : (to type : DataType) (values cells : List (Option Scalar)) → type ≡ to → cells ≡ map (cast_value to) values → HoldsType type cells
held_as to type values cells same cast = subst (λ t. HoldsType t cells) (sym same) (subst (HoldsType to) (sym cast) (cast_holds to values))

-- ---- to whole numbers

pub record NumbersOnly (type : DataType) : Type 0 where
  pub truths : is_boolean type ≡ false
  pub texts : (t : List ℕ) → is_text_of type t ≡ false

pub numbers_only : (type : DataType) → is_number type ≡ true → NumbersOnly type
numbers_only dtype.Boolean h = absurd (true≢false (sym h))
numbers_only dtype.Int8 h = record { truths = refl; texts = λ t. refl }
numbers_only dtype.Int16 h = record { truths = refl; texts = λ t. refl }
numbers_only dtype.Int32 h = record { truths = refl; texts = λ t. refl }
numbers_only dtype.Int64 h = record { truths = refl; texts = λ t. refl }
numbers_only dtype.Int128 h = record { truths = refl; texts = λ t. refl }
numbers_only dtype.UInt8 h = record { truths = refl; texts = λ t. refl }
numbers_only dtype.UInt16 h = record { truths = refl; texts = λ t. refl }
numbers_only dtype.UInt32 h = record { truths = refl; texts = λ t. refl }
numbers_only dtype.UInt64 h = record { truths = refl; texts = λ t. refl }
numbers_only dtype.String h = absurd (true≢false (sym h))
numbers_only dtype.Categorical h = absurd (true≢false (sym h))
numbers_only (dtype.Enum c) h = absurd (true≢false (sym h))
numbers_only dtype.Date h = record { truths = refl; texts = λ t. refl }
numbers_only dtype.Time h = record { truths = refl; texts = λ t. refl }
numbers_only (dtype.Datetime u) h = record { truths = refl; texts = λ t. refl }
numbers_only (dtype.Decimal p s) h = record { truths = refl; texts = λ t. refl }
numbers_only dtype.Null h = absurd (true≢false (sym h))

never : (b : Bool) → (b && false) ≡ false
never true = refl
never false = refl

number_cast : (to : DataType) (range : Range) → range_of to ≡ Some range → (v : Option Scalar) → option_map Number (number_in range v) ≡ cast_value to v
number_cast to range e None = refl
number_cast to range e (Some (Truth b)) = sym (ap (λ t. if t then Some (Truth b) else None) (numbers_only to (ap is_some e)).truths)
number_cast to range e (Some (Number n)) =
    by (is_within range n) ∙ sym (ap (λ r. if option_map_or (λ r. is_within r n) r false then Some (Number n) else None) e)
  where
    by : (b : Bool) → option_map Number (if b then Some n else None) ≡ (if b then Some (Number n) else None)
    by true = refl
    by false = refl
number_cast to range e (Some (Letters t)) =
    sym (ap (λ b. if is_utf8 t && b then Some (Letters t) else None) ((numbers_only to (ap is_some e)).texts t) ∙ ap (λ b. if b then Some (Letters t) else None) (never (is_utf8 t)))

cells_cast : (to : DataType) (range : Range) → range_of to ≡ Some range → (values : List (Option Scalar)) → number_cells (map (number_in range) values) ≡ map (cast_value to) values
cells_cast to range e [] = refl
cells_cast to range e (v ∷ vs) = λ j. number_cast to range e v j ∷ cells_cast to range e vs j

pub numbers_cast : (to : DataType) (range : Range) (values : List (Option Scalar)) (numbers : List (Option ℤ)) → range_of to ≡ Some range → numbers ≡ map (number_in range) values →
    number_cells numbers ≡ map (cast_value to) values
numbers_cast to range values numbers e is = ap number_cells is ∙ cells_cast to range e values

-- ---- to texts

first_holds : (p : Option Scalar → Bool) (v : Option Scalar) (vs : List (Option Scalar)) → list_any p (v ∷ vs) ≡ false → (p v ≡ false) × (list_any p vs ≡ false)
first_holds p v vs h = by (p v) (list_any p vs) h
  where
    by : (a b : Bool) → (a || b) ≡ false → (a ≡ false) × (b ≡ false)
    by true b e = absurd (true≢false e)
    by false b e = (refl, e)

left_true : (a b : Bool) → (a && b) ≡ true → a ≡ true
left_true true b e = refl
left_true false b e = e

pub utf8_of : (from : DataType) (t : List ℕ) → misfits from (Some (Letters t)) ≡ false → is_utf8 t ≡ true
utf8_of from t h = left_true (is_utf8 t) (is_text_of from t) (true_from_not _ h)

module _ (from to : DataType) (plain : is_boolean to ≡ false) (unnumbered : range_of to ≡ None) (any : (t : List ℕ) → is_text_of to t ≡ true) where
  text_cast : (v : Option Scalar) → misfits from v ≡ false → option_map Letters (text_in v) ≡ cast_value to v
  text_cast None h = refl
  text_cast (Some (Truth b)) h = sym (ap (λ t. if t then Some (Truth b) else None) plain)
  text_cast (Some (Number n)) h = sym (ap (λ r. if option_map_or (λ r. is_within r n) r false then Some (Number n) else None) unnumbered)
  text_cast (Some (Letters t)) h = sym (λ j. if utf8_of from t h j && any t j then Some (Letters t) else None)

  pub texts_cast : (values : List (Option Scalar)) → list_any (misfits from) values ≡ false → text_cells (map text_in values) ≡ map (cast_value to) values
  texts_cast [] h = refl
  texts_cast (v ∷ vs) h = let parts = first_holds (misfits from) v vs h in (λ j. text_cast v parts.0 j ∷ texts_cast vs parts.1 j)

pub none_misfit : (from : DataType) (values : List (Option Scalar)) → HoldsType from values → list_any (misfits from) values ≡ false
none_misfit from values h = none_passes (misfits from) values h

-- ---- to categories of an enum

module _ (from : DataType) (categories : List (List ℕ)) where
  abbrev enumeration : DataType
  enumeration = dtype.Enum (Some categories)

  abbrev place : Option Scalar → Option ℕ
  place v = code_of categories (text_in v)

  letters_cast : (t : List ℕ) → is_utf8 t ≡ true → (o : Option ℕ) → position (bytes_eq t) categories ≡ o →
      option_map Letters (text_for categories (position (bytes_eq t) categories)) ≡ cast_value enumeration (Some (Letters t))
  letters_cast t u None e =
      ap (λ o. option_map Letters (text_for categories o)) e
      ∙ sym (λ j. if u j && none_passes (bytes_eq t) categories e j then Some (Letters t) else None)
  letters_cast t u (Some k) e =
      ap (λ o. option_map Letters (text_for categories o)) e ∙ ap (λ x. Some (Letters x)) (sym (text_at_place categories t k e))
      ∙ sym (λ j. if u j && known categories t k e j then Some (Letters t) else None)

  pub place_cast : (v : Option Scalar) → misfits from v ≡ false → option_map Letters (text_for categories (place v)) ≡ cast_value enumeration v
  place_cast None h = refl
  place_cast (Some (Truth b)) h = refl
  place_cast (Some (Number n)) h = refl
  place_cast (Some (Letters t)) h = letters_cast t (utf8_of from t h) (position (bytes_eq t) categories) refl

  pub places_cast : (values : List (Option Scalar)) → list_any (misfits from) values ≡ false → text_cells (decoded categories (map place values)) ≡ map (cast_value enumeration) values
  places_cast [] h = refl
  places_cast (v ∷ vs) h = let parts = first_holds (misfits from) v vs h in (λ j. place_cast v parts.0 j ∷ places_cast vs parts.1 j)

  letters_coded : (t : List ℕ) (o : Option ℕ) → position (bytes_eq t) categories ≡ o → code_of categories (text_for categories (position (bytes_eq t) categories)) ≡ position (bytes_eq t) categories
  letters_coded t None e = ap (λ o. code_of categories (text_for categories o)) e ∙ sym e
  letters_coded t (Some k) e = ap (λ o. code_of categories (text_for categories o)) e ∙ ap (λ x. position (bytes_eq x) categories) (sym (text_at_place categories t k e))

  pub place_coded : (v : Option Scalar) → code_of categories (text_for categories (place v)) ≡ place v
  place_coded None = refl
  place_coded (Some (Truth b)) = refl
  place_coded (Some (Number n)) = refl
  place_coded (Some (Letters t)) = letters_coded t (position (bytes_eq t) categories) refl

  pub places_coded : (values : List (Option Scalar)) → AreCodes categories (map place values)
  places_coded [] = refl
  places_coded (v ∷ vs) = λ j. place_coded v j ∷ places_coded vs j

-- ---- to the same type

pub cell_kept : (type : DataType) (v : Option Scalar) → misfits type v ≡ false → v ≡ cast_value type v
cell_kept type None h = refl
cell_kept type (Some x) h = sym (ap (λ b. if b then Some x else None) (true_from_not _ h))

cells_kept : (type : DataType) (values : List (Option Scalar)) → list_any (misfits type) values ≡ false → values ≡ map (cast_value type) values
cells_kept type [] h = refl
cells_kept type (v ∷ vs) h = let parts = first_holds (misfits type) v vs h in (λ j. cell_kept type v parts.0 j ∷ cells_kept type vs parts.1 j)

pub cast_same : (column : ColumnValue) (to : DataType) → HoldsType column.dtype column.values → column.dtype ≡ to → column ≡ cast_column column to
cast_same column to h same =
    let kept = cells_kept column.dtype column.values (none_misfit column.dtype column.values h) in
    (λ j. record { name = column.name; dtype = same j; values = (kept ∙ ap (λ t. map (cast_value t) column.values) same) j })
