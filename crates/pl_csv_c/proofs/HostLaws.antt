-- What stands in the arrays of a column of the host's own.
use Rattle.std.proofs.Common.{◌≡◌, ℕ, ℤ, pos, negsuc, take, ◌+◌, ◌<◌, Bool, true, false, not, cond, ◌&&◌, ◌||◌, ◌==◌, eqb, ◌≢◌, Bor, List, [], ◌∷◌, ◌++◌, map, length, get_or, Option, None, Some, refl, sym, ◌∙◌, ap, subst, arith, inl, inr, true≢false}
use Rattle.std.specs.List.{list_any}
use Rattle.std.specs.Option.{option_map, option_map_or, option_and_then}
use Rattle.std.specs.Prelude.{◌⊎◌, slice_get}
use Rattle.std.specs.Str.{is_utf8, bytes_eq}
use Rattle.std.proofs.lemmas.Bool.Decides.{eqb_tells}
use Rattle.std.proofs.lemmas.List.{take_more, map_push}
use Rattle.std.proofs.lemmas.List.FromFn.{length-map-range_with_len, get_or-map-range_with_len}
use Rattle.std.proofs.lemmas.List.Folds.{list_any_at}
use Rattle.std.proofs.lemmas.Option.{slice_get_cases, get_or_from_slice_get}
use Rattle.std.specs.Cmp.Lexicographic.{nat_list_eq_equiv}
use Rattle.pl_csv_c.specs.HostCells.{IsTaken}
use Rattle.pl_csv_c.specs.HostColumns.{all_texts, categories_in, numbered_unit, numbered_precision, numbered_type, host_type, checked_text, is_set, number_at, wide_at, text_numbered, is_in_words, number_within, value_in, host_value, host_cell, host_cells, is_whole, AreWhole}
use Rattle.pl_csv_c.specs.declared.host_column.HostColumn.{HostColumn}
use Rattle.pl_frame.specs.Columns.{is_enum, misfits, HoldsType}
use Rattle.pl_frame.specs.Frame.{Scalar, Number, Letters}
use Rattle.pl_frame.specs.Types.{Range, range_of, is_within}
use Rattle.pl_frame.specs.declared.data_type.DataType.{DataType}
use Rattle.pl_frame.specs.declared.data_type.DataType.TheVariants as dtype
use Rattle.pl_frame.specs.declared.data_type.TimeUnit.{TimeUnit}
use Rattle.pl_frame.proofs.ColumnLaws.{position-nowhere}

-- one row more
pub whole-more : (type : DataType) (c : HostColumn) (k : ℕ) → AreWhole type c k → is_whole type c k ≡ true → AreWhole type c (k + 1)
whole-more type c k so_far here = λ row less. by row less (eqb_tells row k)
  where
    by : (row : ℕ) → row < k + 1 → ((eqb row k ≡ true) × (row ≡ k)) ⊎ ((eqb row k ≡ false) × (row ≢ k)) → is_whole type c row ≡ true
    by row less (inl same) = subst (λ r. is_whole type c r ≡ true) (sym same.1) here
    by row less (inr other) = so_far row (omega (arith, less, other.1))

-- a test of mapped items
pub list_any-map : {X Y : Type 0} (p : X → Bool) (h : Y → X) (ys : List Y) → list_any p (map h ys) ≡ list_any (λ y. p (h y)) ys
list_any-map p h [] = refl
list_any-map p h (y ∷ ys) = ap (λ b. p (h y) || b) (list_any-map p h ys)

-- ---- numbers

-- the value of a row where numbers stand in 64 bits
pub narrow-value : (type : DataType) (c : HostColumn) (row : ℕ) (x : Option ℤ) (r : Range) → range_of type ≡ Some r → is_in_words type ≡ false → number_at c row ≡ x → host_value type c row ≡ option_and_then (number_within r) x
narrow-value type c row x r range narrow at =
    ap (λ o. value_in o type c row) range
    ∙ ap (λ b. option_and_then (number_within r) (cond b (wide_at c row) (number_at c row))) narrow
    ∙ ap (option_and_then (number_within r)) at

number-fits : (type : DataType) (r : Range) → range_of type ≡ Some r → (x : Option ℤ) → misfits type (option_and_then (number_within r) x) ≡ false
number-fits type r range None = refl
number-fits type r range (Some n) = by (is_within r n) refl
  where
    by : (b : Bool) → is_within r n ≡ b → misfits type (number_within r n) ≡ false
    by true e = ap (λ b. misfits type (cond b (Some (Number n)) None)) e ∙ ap (λ o. not (option_map_or (λ range. is_within range n) o false)) range ∙ ap not e
    by false e = ap (λ b. misfits type (cond b (Some (Number n)) None)) e

cell-fits : (type : DataType) (c : HostColumn) (r : Range) → range_of type ≡ Some r → (row : ℕ) → misfits type (host_cell type c row) ≡ false
cell-fits type c r range row = by (is_set c row)
  where
    value : misfits type (host_value type c row) ≡ false
    value = ap (λ o. misfits type (value_in o type c row)) range ∙ number-fits type r range (cond (is_in_words type) (wide_at c row) (number_at c row))

    by : (b : Bool) → misfits type (cond b (host_value type c row) None) ≡ false
    by true = value
    by false = refl

-- cells that all fit
cells-hold : (type : DataType) (c : HostColumn) → ((row : ℕ) → misfits type (host_cell type c row) ≡ false) → HoldsType type (host_cells type c)
cells-hold type c fits =
    position-nowhere (misfits type) (host_cells type c) None (λ k less.
    let inside : k < length c.present.now = subst (λ n. k < n) (length-map-range_with_len (host_cell type c) 0 (length c.present.now)) less in
    ap (misfits type) (get_or-map-range_with_len (host_cell type c) 0 (length c.present.now) k k None inside (omega arith)) ∙ fits k)

pub numbers-hold : (type : DataType) (c : HostColumn) (r : Range) → range_of type ≡ Some r → HoldsType type (host_cells type c)
numbers-hold type c r range = cells-hold type c (cell-fits type c r range)

-- ---- categories

pub texts-none : (xs : List (Bor (List ℕ))) → list_any (λ x. not (is_utf8 x.now)) xs ≡ true → all_texts (map (λ x. x.now) xs) ≡ None
texts-none xs broken = ap (λ b. cond b None (Some (map (λ x. x.now) xs))) (list_any-map (λ text. not (is_utf8 text)) (λ x. x.now) xs ∙ broken)

pub texts-some : (xs : List (Bor (List ℕ))) → list_any (λ x. not (is_utf8 x.now)) xs ≡ false → all_texts (map (λ x. x.now) xs) ≡ Some (map (λ x. x.now) xs)
texts-some xs sound = ap (λ b. cond b None (Some (map (λ x. x.now) xs))) (list_any-map (λ text. not (is_utf8 text)) (λ x. x.now) xs ∙ sound)

abbrev is_enum_some : Option DataType → Bool
is_enum_some o = option_map_or is_enum o false

no-enum : (b : Bool) (x y : Option DataType) → is_enum_some x ≡ false → is_enum_some y ≡ false → is_enum_some (cond b x y) ≡ false
no-enum true x y one other = one
no-enum false x y one other = other

plain-no-enum : (n : ℕ) → is_enum_some (numbered_type n) ≡ false
plain-no-enum n =
    no-enum (n == 0) _ _ refl (no-enum (n == 1) _ _ refl (no-enum (n == 2) _ _ refl (no-enum (n == 3) _ _ refl (no-enum (n == 4) _ _ refl
    (no-enum (n == 5) _ _ refl (no-enum (n == 6) _ _ refl (no-enum (n == 7) _ _ refl (no-enum (n == 8) _ _ refl (no-enum (n == 9) _ _ refl
    (no-enum (n == 10) _ _ refl (no-enum (n == 11) _ _ refl (no-enum (n == 13) _ _ refl (no-enum (n == 14) _ _ refl (no-enum (n == 17) _ _ refl refl))))))))))))))

unit-no-enum : (o : Option TimeUnit) → is_enum_some (option_map (λ unit. dtype.Datetime unit) o) ≡ false
unit-no-enum None = refl
unit-no-enum (Some unit) = refl

-- the type of an enum is that of its categories, each of which is UTF-8
pub enum-type : (c : HostColumn) (type : DataType) → host_type c ≡ Some type → is_enum type ≡ true → type ≡ dtype.Enum (Some (map (λ x. x.now) c.categories.now))
enum-type c type is enum = by (c.dtype == 12) refl
  where
    later : Option DataType
    later = cond (c.dtype == 15) (option_map (λ unit. dtype.Datetime unit) (numbered_unit c.unit)) (cond (c.dtype == 16) (Some (dtype.Decimal (numbered_precision c.precision) (Some c.scale))) (numbered_type c.dtype))

    named : (b : Bool) → list_any (λ text. not (is_utf8 text)) (map (λ x. x.now) c.categories.now) ≡ b → option_map (λ texts. dtype.Enum (Some texts)) (cond b None (Some (map (λ x. x.now) c.categories.now))) ≡ Some type
        → type ≡ dtype.Enum (Some (map (λ x. x.now) c.categories.now))
    named true e h = cc
    named false e h = cc

    by : (b : Bool) → (c.dtype == 12) ≡ b → type ≡ dtype.Enum (Some (map (λ x. x.now) c.categories.now))
    by true e =
        named (list_any (λ text. not (is_utf8 text)) (map (λ x. x.now) c.categories.now)) refl
        (ap (λ b. cond b (option_map (λ texts. dtype.Enum (Some texts)) (categories_in c)) later) (sym e) ∙ is)
    by false e =
        let none : is_enum_some later ≡ false = no-enum (c.dtype == 15) _ _ (unit-no-enum (numbered_unit c.unit)) (no-enum (c.dtype == 16) _ _ refl (plain-no-enum c.dtype)) in
        let same : later ≡ Some type = ap (λ b. cond b (option_map (λ texts. dtype.Enum (Some texts)) (categories_in c)) later) (sym e) ∙ is in
        absurd (true≢false (sym (ap is_enum_some same ∙ enum) ∙ none))

-- each text that a number names is a category
named-fits : (texts : List (List ℕ)) (x : Option ℤ) → misfits (dtype.Enum (Some texts)) (option_map Letters (option_and_then (text_numbered texts) x)) ≡ false
named-fits texts None = refl
named-fits texts (Some (negsuc n)) = refl
named-fits texts (Some (pos n)) = by (slice_get texts n) refl
  where
    found : (text : List ℕ) → slice_get texts n ≡ Some text → list_any (bytes_eq text) texts ≡ true
    found text at = elim (slice_get_cases texts n).1 [
      | inl inside ↦ list_any_at (bytes_eq text) texts n text inside.1 (ap (bytes_eq text) (get_or_from_slice_get texts n text text at) ∙ nat_list_eq_equiv.refl text)
      | inr outside ↦ cc
    ]

    checked : (text : List ℕ) → slice_get texts n ≡ Some text → (b : Bool) → is_utf8 text ≡ b → misfits (dtype.Enum (Some texts)) (option_map Letters (cond b (Some text) None)) ≡ false
    checked text at true e = ap (λ b. not (b && list_any (bytes_eq text) texts)) e ∙ ap not (found text at)
    checked text at false e = refl

    by : (o : Option (List ℕ)) → slice_get texts n ≡ o → misfits (dtype.Enum (Some texts)) (option_map Letters (option_and_then checked_text o)) ≡ false
    by None e = refl
    by (Some text) e = checked text e (is_utf8 text) refl

pub enum-holds : (c : HostColumn) (type : DataType) → host_type c ≡ Some type → is_enum type ≡ true → HoldsType type (host_cells type c)
enum-holds c type is enum =
    subst (λ t. HoldsType t (host_cells t c)) (sym (enum-type c type is enum)) (cells-hold own c fits)
  where
    texts : List (List ℕ)
    texts = map (λ x. x.now) c.categories.now

    own : DataType
    own = dtype.Enum (Some texts)

    fits : (row : ℕ) → misfits own (host_cell own c row) ≡ false
    fits row = by (is_set c row)
      where
        by : (b : Bool) → misfits own (cond b (host_value own c row) None) ≡ false
        by true = named-fits texts (number_at c row)
        by false = refl

-- ---- rows that are taken

pub taken-true : (b : Bool) (type : DataType) (c : HostColumn) (row : ℕ) (old new : List (Option Scalar)) → b ≡ true → IsTaken b type c row old new → IsTaken true type c row old new
taken-true b type c row old new is taken = subst (λ b. IsTaken b type c row old new) is taken

-- ---- columns

-- one item more
pub map-take-more : {X Y : Type 0} (f : X → Y) (xs : List X) (k : ℕ) (d : X) → k < length xs → map f (take (k + 1) xs) ≡ map f (take k xs) ++ f (get_or xs k d) ∷ []
map-take-more f xs k d inside = ap (map f) (take_more xs k d inside) ∙ map_push f (take k xs) (get_or xs k d)
