-- Laws of cells: which are values of a type, and what stands in a row.
use Rattle.std.proofs.Common.{◌≡◌, ℕ, ℤ, suc, zero, ◌<◌, Bool, true, false, not, ◌&&◌, List, [], ◌∷◌, length, map, replicate, position, get_or, slice_get, Option, None, Some, IfSome, is_none, if◌then◌else◌, IsUtf8, refl, sym, ◌∙◌, ap, arith, unwrap_or}
use Rattle.std.specs.List.{AllByRecursion, list_any}
use Rattle.std.specs.Option.{option_map, option_map_or}
use Rattle.std.specs.Str.{bytes_eq, is_utf8}
use Rattle.std.proofs.lemmas.List.Folds.{list_any_at}
use Rattle.std.proofs.lemmas.Str.{is_utf8-from_IsUtf8}
use Rattle.pl_frame.specs.declared.data_type.DataType.{DataType}
use Rattle.pl_frame.specs.declared.data_type.DataType.TheVariants as dtype
use Rattle.pl_frame.specs.Categories.{code_of, dictionary_of}
use Rattle.pl_frame.specs.Columns.{dictionary, categories_of, truth_cells, number_cells, text_cells, text_in, is_enum, is_text_of, misfits, first_misfit, HoldsType}
use Rattle.pl_frame.specs.Frame.{Scalar, Truth, Number, Letters}
use Rattle.pl_frame.specs.Optional.{AreAllUtf8, flagged}
use Rattle.pl_frame.specs.Types.{Range, range_of, signed_range, is_within, is_outside, is_narrow}
use Rattle.pl_frame.proofs.CategoryLaws.{known}
use Rattle.pl_frame.proofs.ColumnLaws.{position-nowhere, true_from_not}
use Rattle.pl_frame.proofs.SchemaLaws.{position-map, none_passes}

-- ---- rows

module _ {X : Type 0} (F : X → Scalar) where
  -- what stands in a row
  pub cell_of : (xs : List (Option X)) (i : ℕ) → unwrap_or (slice_get (map (option_map F) xs) i) None ≡ option_map F (unwrap_or (slice_get xs i) None)
  cell_of [] i = refl
  cell_of (x ∷ xs) zero = refl
  cell_of (x ∷ xs) (suc i) = cell_of xs i

  null_same : (o : Option X) → is_none (option_map F o) ≡ is_none o
  null_same None = refl
  null_same (Some x) = refl

  pub first_of : (type : DataType) (xs : List (Option X)) → first_misfit type (map (option_map F) xs) ≡ position (λ x. misfits type (option_map F x)) xs
  first_of type xs = position-map (option_map F) (misfits type) xs

  -- no row misfits
  pub all_hold : (type : DataType) (xs : List (Option X)) → ((k : ℕ) → k < length xs → misfits type (option_map F (get_or xs k None)) ≡ false) →
      HoldsType type (map (option_map F) xs)
  all_hold type xs each = first_of type xs ∙ position-nowhere (λ x. misfits type (option_map F x)) xs None each

pub text_in-cells : (xs : List (Option (List ℕ))) → map text_in (text_cells xs) ≡ xs
text_in-cells [] = refl
text_in-cells (None ∷ xs) = ap (λ l. None ∷ l) (text_in-cells xs)
text_in-cells (Some x ∷ xs) = ap (λ l. Some x ∷ l) (text_in-cells xs)

text_of : (o : Option (List ℕ)) → text_in (option_map Letters o) ≡ o
text_of None = refl
text_of (Some t) = refl

-- the text in a row
pub text_of_row : (xs : List (Option (List ℕ))) (i : ℕ) → text_in (unwrap_or (slice_get (text_cells xs) i) None) ≡ unwrap_or (slice_get xs i) None
text_of_row xs i = ap text_in (cell_of Letters xs i) ∙ text_of (unwrap_or (slice_get xs i) None)

pub null_of_row : (xs : List (Option (List ℕ))) (i : ℕ) → is_none (unwrap_or (slice_get (text_cells xs) i) None) ≡ is_none (unwrap_or (slice_get xs i) None)
null_of_row xs i = ap is_none (cell_of Letters xs i) ∙ null_same Letters (unwrap_or (slice_get xs i) None)

-- the code of a row, of a column that is no enum, and of one that is
pub code-plain : (type : DataType) (xs : List (Option (List ℕ))) (i : ℕ) → is_enum type ≡ false →
    code_of (dictionary type (text_cells xs)) (text_in (unwrap_or (slice_get (text_cells xs) i) None)) ≡ code_of (dictionary_of xs) (unwrap_or (slice_get xs i) None)
code-plain type xs i plain =
    (λ j. code_of (if plain j then categories_of type else dictionary_of (text_in-cells xs j)) (text_of_row xs i j))

pub code-enum : (type : DataType) (xs : List (Option (List ℕ))) (i : ℕ) → is_enum type ≡ true →
    code_of (dictionary type (text_cells xs)) (text_in (unwrap_or (slice_get (text_cells xs) i) None)) ≡ code_of (categories_of type) (unwrap_or (slice_get xs i) None)
code-enum type xs i enumerated =
    (λ j. code_of (if enumerated j then categories_of type else dictionary_of (map text_in (text_cells xs))) (text_of_row xs i j))

-- ---- values of a type

truth_holds : (o : Option Bool) → misfits dtype.Boolean (option_map Truth o) ≡ false
truth_holds None = refl
truth_holds (Some b) = refl

pub truths_hold : (xs : List (Option Bool)) → HoldsType dtype.Boolean (truth_cells xs)
truths_hold xs = all_hold Truth dtype.Boolean xs (λ k l. truth_holds (get_or xs k None))

utf8_at : (xs : List (Option (List ℕ))) (k : ℕ) → AreAllUtf8 xs → k < length xs → IfSome (get_or xs k None) IsUtf8
utf8_at [] k u l = absurd (omega arith)
utf8_at (x ∷ xs) zero u l = u.0
utf8_at (x ∷ xs) (suc k) u l = utf8_at xs k u.1 (omega arith)

text_holds : (type : DataType) (o : Option (List ℕ)) → ((text : List ℕ) → is_text_of type text ≡ true) → IfSome o IsUtf8 → misfits type (option_map Letters o) ≡ false
text_holds type None any u = refl
text_holds type (Some t) any u = ap (λ b. not (b && is_text_of type t)) (is_utf8-from_IsUtf8 t u) ∙ ap not (any t)

-- texts are values of a type of texts
pub texts_hold : (type : DataType) (xs : List (Option (List ℕ))) → ((text : List ℕ) → is_text_of type text ≡ true) → AreAllUtf8 xs → HoldsType type (text_cells xs)
texts_hold type xs any u = all_hold Letters type xs (λ k l. text_holds type (get_or xs k None) any (utf8_at xs k u l))

abbrev nothing : Option Scalar
nothing = None

null_at : (n k : ℕ) → get_or (replicate n nothing) k nothing ≡ nothing
null_at zero k = refl
null_at (suc n) zero = refl
null_at (suc n) (suc k) = null_at n k

pub nulls_hold : (type : DataType) (n : ℕ) → HoldsType type (replicate n None)
nulls_hold type n = position-nowhere (misfits type) (replicate n None) None (λ k l. ap (misfits type) (null_at n k))

-- ---- numbers in a range

outside_same : (type : DataType) (range : Range) (o : Option ℤ) → range_of type ≡ Some range → misfits type (option_map Number o) ≡ is_outside range o
outside_same type range None e = refl
outside_same type range (Some n) e = ap (λ r. not (option_map_or (λ r. is_within r n) r false)) e

-- the first number that is no value of the type is the first outside its range
pub first_misfit-outside : (type : DataType) (range : Range) (xs : List (Option ℤ)) → range_of type ≡ Some range → first_misfit type (number_cells xs) ≡ position (is_outside range) xs
first_misfit-outside type range xs e = first_of Number type xs ∙ (λ j. position (λ x. outside_same type range x e j) xs)

-- ---- texts

-- the texts among flagged parts are UTF-8
pub utf8-flagged : (texts : List (List ℕ)) (flags : List Bool) → AllByRecursion IsUtf8 texts → AreAllUtf8 (flagged texts flags)
utf8-flagged [] flags u = tt
utf8-flagged (t ∷ ts) [] u = tt
utf8-flagged (t ∷ ts) (true ∷ fs) u = (u.0, utf8-flagged ts fs u.1)
utf8-flagged (t ∷ ts) (false ∷ fs) u = (tt, utf8-flagged ts fs u.1)

-- a text with a place among the categories is a value of their enum, and one without is none
pub category_holds : (categories : List (List ℕ)) (v : Option (List ℕ)) (t : List ℕ) (k : ℕ) → v ≡ Some t → IsUtf8 t → position (bytes_eq t) categories ≡ Some k →
    true ≡ not (misfits (dtype.Enum (Some categories)) (option_map Letters v))
category_holds categories v t k is u at =
    sym (ap (λ o. not (misfits (dtype.Enum (Some categories)) (option_map Letters o))) is
    ∙ ap (λ b. not (not (b && list_any (bytes_eq t) categories))) (is_utf8-from_IsUtf8 t u) ∙ ap (λ b. not (not b)) (known categories t k at))

pub category_misfits : (categories : List (List ℕ)) (v : Option (List ℕ)) (t : List ℕ) → v ≡ Some t → position (bytes_eq t) categories ≡ None →
    false ≡ not (misfits (dtype.Enum (Some categories)) (option_map Letters v))
category_misfits categories v t is none =
    sym (ap (λ o. not (misfits (dtype.Enum (Some categories)) (option_map Letters o))) is
    ∙ ap (λ b. not (not (is_utf8 t && b))) (none_passes (bytes_eq t) categories none) ∙ never (is_utf8 t))
  where
    never : (b : Bool) → not (not (b && false)) ≡ false
    never true = refl
    never false = refl

-- where no number is outside a range, none is at any place
pub all_outside : (range : Range) (xs : List (Option ℤ)) → position (is_outside range) xs ≡ None → (k : ℕ) → k < length xs → is_outside range (get_or xs k None) ≡ false
all_outside range xs none k l = by (is_outside range (get_or xs k None)) refl
  where
    by : (b : Bool) → is_outside range (get_or xs k None) ≡ b → is_outside range (get_or xs k None) ≡ false
    by false e = e
    by true e = let seen = list_any_at (is_outside range) xs k None l e in let unseen = none_passes (is_outside range) xs none in absurd (cc)

pub narrow_one : (range : Range) (n : ℤ) → is_narrow range ≡ true → is_within range n ≡ true → is_within (signed_range 64) n ≡ true
narrow_one range n narrow inside = grind arith

narrow_each : (range : Range) (o : Option ℤ) → is_narrow range ≡ true → is_outside range o ≡ false → is_outside (signed_range 64) o ≡ false
narrow_each range None narrow inside = refl
narrow_each range (Some n) narrow inside = ap not (narrow_one range n narrow (true_from_not _ inside))

-- no number outside a narrow range is outside 64 bits
pub narrow_inside : (range : Range) (xs : List (Option ℤ)) → is_narrow range ≡ true → position (is_outside range) xs ≡ None → position (is_outside (signed_range 64)) xs ≡ None
narrow_inside range xs narrow none = position-nowhere (is_outside (signed_range 64)) xs None (λ k l. narrow_each range (get_or xs k None) narrow (all_outside range xs none k l))
