-- Laws of frames of which one column is another.
use Rattle.std.proofs.Common.{◌≡◌, ◌≢◌, ℕ, zero, suc, ◌<◌, true, false, List, [], ◌∷◌, length, get_or, slice_get, slice_set, None, Some, AllPairs, refl, sym, ◌∙◌, ap, subst, arith, true≢false}
use Rattle.pl_frame.specs.declared.data_type.DataType.{DataType}
use Rattle.pl_frame.specs.Casts.{is_cast, can_cast, with_cast, cast_column}
use Rattle.pl_frame.specs.Frame.{ColumnValue, IsFrame, HaveHeight, height_of, names_of}
use Rattle.std.specs.List.{AllByRecursion}
use Rattle.std.specs.Option.{option_map, option_map_or}
use Rattle.std.proofs.lemmas.List.{length-map}
use Rattle.std.proofs.lemmas.Option.{slice_get-get_or, slice_get-map, slice_get_within}

none-some : {X : Type 0} (x : X) → None ≡ Some x → ⊥
none-some x e = cc

some_same : {X : Type 0} (x y : X) → Some x ≡ Some y → x ≡ y
some_same x y e = cc

module _ (column new : ColumnValue) (height : length new.values ≡ length column.values) (name : new.name ≡ column.name) where
  heights_set : (n : ℕ) (columns : List ColumnValue) (i : ℕ) → slice_get columns i ≡ Some column → HaveHeight n columns → HaveHeight n (slice_set columns i new)
  heights_set n [] i at h = h
  heights_set n (x ∷ xs) zero at h = (height ∙ ap (λ c. length c.values) (some_same _ _ (sym at)) ∙ h.0, h.1)
  heights_set n (x ∷ xs) (suc i) at h = (h.0, heights_set n xs i at h.1)

  height_of-set : (columns : List ColumnValue) (i : ℕ) → slice_get columns i ≡ Some column → height_of (slice_set columns i new) ≡ height_of columns
  height_of-set [] i at = refl
  height_of-set (x ∷ xs) zero at = height ∙ ap (λ c. length c.values) (some_same _ _ (sym at))
  height_of-set (x ∷ xs) (suc i) at = refl

  names_set : (columns : List ColumnValue) (i : ℕ) → slice_get columns i ≡ Some column → names_of (slice_set columns i new) ≡ names_of columns
  names_set [] i at = refl
  names_set (x ∷ xs) zero at = λ j. (name ∙ ap (λ c. c.name) (some_same _ _ (sym at))) j ∷ names_of xs
  names_set (x ∷ xs) (suc i) at = ap (λ l. x.name ∷ l) (names_set xs i at)

  -- a column of the same name and height
  pub frame_set : (columns : List ColumnValue) (i : ℕ) → slice_get columns i ≡ Some column → IsFrame columns → IsFrame (slice_set columns i new)
  frame_set columns i at frame = record {
    one_height = subst (λ n. HaveHeight n (slice_set columns i new)) (sym (height_of-set columns i at)) (heights_set (height_of columns) columns i at frame.one_height);
    distinct = subst (AllPairs (λ a b. a ≢ b)) (sym (names_set columns i at)) frame.distinct;
  }

pub read_at : {X : Type 0} (xs : List X) (i : ℕ) (x : X) → i < length xs → x ≡ get_or xs i x → slice_get xs i ≡ Some x
read_at xs i x l e = slice_get-get_or xs i x l ∙ ap Some (sym e)

-- the column stands where the cast is asked
pub cast_at : (columns : List ColumnValue) (i : ℕ) (to : DataType) (column : ColumnValue) → slice_get columns i ≡ Some column → can_cast columns i to ≡ is_cast column.dtype to
cast_at columns i to column at = ap (λ o. option_map_or (λ c. is_cast c.dtype to) o false) at

pub with_cast-at : (columns : List ColumnValue) (i : ℕ) (to : DataType) (column : ColumnValue) → slice_get columns i ≡ Some column → with_cast columns i to ≡ slice_set columns i (cast_column column to)
with_cast-at columns i to column at = ap (λ o. option_map_or (λ c. slice_set columns i (cast_column c to)) o columns) at

pub cast_within : (columns : List ColumnValue) (i : ℕ) (to : DataType) → can_cast columns i to ≡ true → i < length columns
cast_within [] i to h = absurd (true≢false (sym h))
cast_within (x ∷ xs) zero to h = omega arith
cast_within (x ∷ xs) (suc i) to h = let l = cast_within xs i to h in omega (arith, l)

set_itself : {X : Type 0} (xs : List X) (i : ℕ) (x : X) → slice_get xs i ≡ Some x → slice_set xs i x ≡ xs
set_itself [] i x at = refl
set_itself (y ∷ ys) zero x at = ap (λ z. z ∷ ys) (some_same _ _ (sym at))
set_itself (y ∷ ys) (suc i) x at = ap (λ l. y ∷ l) (set_itself ys i x at)

pub with_cast-same : (columns : List ColumnValue) (i : ℕ) (to : DataType) (column : ColumnValue) → slice_get columns i ≡ Some column → column ≡ cast_column column to → with_cast columns i to ≡ columns
with_cast-same columns i to column at same = with_cast-at columns i to column at ∙ ap (slice_set columns i) (sym same) ∙ set_itself columns i column at

pub frame_cast : (columns : List ColumnValue) (i : ℕ) (to : DataType) (column : ColumnValue) → slice_get columns i ≡ Some column → IsFrame columns → IsFrame (slice_set columns i (cast_column column to))
frame_cast columns i to column at frame = frame_set column (cast_column column to) (length-map column.values _) refl columns i at frame

-- ---- a column of a name and height that stand there

all_at : {X : Type 0} (P : X → Type 0) (xs : List X) (i : ℕ) (x : X) → slice_get xs i ≡ Some x → AllByRecursion P xs → P x
all_at P [] i x at all = absurd (none-some x at)
all_at P (y ∷ ys) zero x at all = subst P (some_same _ _ at) all.0
all_at P (y ∷ ys) (suc i) x at all = all_at P ys i x at all.1

module _ (new : ColumnValue) (columns : List ColumnValue) (i : ℕ) (named : slice_get (names_of columns) i ≡ Some new.name) where
  pub fits_within : i < length columns
  fits_within = let l = slice_get_within (names_of columns) i new.name named in let same = length-map columns (λ (c : ColumnValue). c.name) in omega (arith, l, same)

  at : slice_get columns i ≡ Some (get_or columns i new)
  at = slice_get-get_or columns i new fits_within

  same_name : new.name ≡ (get_or columns i new).name
  same_name = some_same _ _ (sym named ∙ slice_get-map (λ (c : ColumnValue). c.name) columns i ∙ ap (option_map (λ (c : ColumnValue). c.name)) at)

  module _ (one_height : HaveHeight (height_of columns) columns) (tall : length new.values ≡ height_of columns) where
    same_height : length new.values ≡ length (get_or columns i new).values
    same_height = tall ∙ sym (all_at (λ (c : ColumnValue). length c.values ≡ height_of columns) columns i (get_or columns i new) at one_height)

    pub fits_names : names_of (slice_set columns i new) ≡ names_of columns
    fits_names = names_set (get_or columns i new) new same_height same_name columns i at

    pub fits_height : height_of (slice_set columns i new) ≡ height_of columns
    fits_height = height_of-set (get_or columns i new) new same_height same_name columns i at

pub fits_frame : (new : ColumnValue) (columns : List ColumnValue) (i : ℕ) → slice_get (names_of columns) i ≡ Some new.name → length new.values ≡ height_of columns → IsFrame columns
    → IsFrame (slice_set columns i new)
fits_frame new columns i named tall frame =
    frame_set (get_or columns i new) new (same_height new columns i named frame.one_height tall) (same_name new columns i named) columns i (at new columns i named) frame
