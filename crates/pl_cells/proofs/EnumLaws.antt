-- Laws of texts among the categories of an enum.
use Rattle.std.proofs.Common.{◌≡◌, ℕ, Bool, true, false, not, if◌then◌else◌, List, [], ◌∷◌, ◌++◌, position, Option, Some, None, Result, Ok, Err, OnOk, OnErr, IsUtf8, refl, sym, ◌∙◌, ap, subst, arith}
use Rattle.std.specs.List.{list_any}
use Rattle.std.specs.Option.{option_map}
use Rattle.std.specs.Str.{bytes_eq, is_utf8}
use Rattle.std.proofs.lemmas.Grind.{common_steps}
use Rattle.std.proofs.lemmas.List.{map-append}
use Rattle.pl_frame.specs.declared.data_type.DataType.{DataType}
use Rattle.pl_frame.specs.declared.data_type.DataType.TheVariants as dtype
use Rattle.pl_cells.specs.Faults as fault
use Rattle.pl_frame.specs.Categories.{decoded}
use Rattle.pl_frame.specs.Columns.{text_cells, misfits, HoldsType}
use Rattle.pl_frame.specs.Frame.{Scalar, Letters}
use Rattle.pl_frame.proofs.CategoryLaws.{decoded-value, codes-value, known}
use Rattle.pl_frame.proofs.CellLaws.{category_holds}
use Rattle.pl_frame.proofs.SchemaLaws.{none_passes}
use Rattle.pl_cells.specs.EnumPlaces.{EnumValue, ArePlaces}
use Rattle.pl_cells.specs.Cells.{Cell, category_cell}

abbrev pub enum_of : List (List ℕ) → List (Option (List ℕ)) → EnumValue
enum_of categories texts = record { categories = categories; texts = texts }

-- one value more of a type
pub holds_push : (type : DataType) (xs : List (Option Scalar)) (v : Option Scalar) → HoldsType type xs → misfits type v ≡ false → HoldsType type (xs ++ v ∷ [])
holds_push type xs v h fits = grind (arith, common_steps)

false_from_not : (b : Bool) → true ≡ not b → b ≡ false
false_from_not true h = cc
false_from_not false h = refl

-- ---- places

-- one place more
places_value : (d : List (List ℕ)) (cs new : List (Option ℕ)) (t : List ℕ) (k : ℕ) → ArePlaces d cs → IsUtf8 t → position (bytes_eq t) d ≡ Some k → new ≡ cs ++ Some k ∷ [] → ArePlaces d new
places_value d cs new t k h u at e = record {
  codes = codes-value d cs new t k h.codes at e;
  held =
      let fits : misfits (dtype.Enum (Some d)) (Some (Letters t)) ≡ false = false_from_not _ (category_holds d (Some t) t k refl u at) in
      let same : text_cells (decoded d new) ≡ text_cells (decoded d cs) ++ Some (Letters t) ∷ [] =
      ap text_cells (decoded-value d cs new (Some t) t k refl at e) ∙ map-append (option_map Letters) (decoded d cs) (Some t ∷ []) in
      subst (HoldsType (dtype.Enum (Some d))) (sym same) (holds_push (dtype.Enum (Some d)) (text_cells (decoded d cs)) (Some (Letters t)) h.held fits);
}

pub places_after : {T E : Type 0} (r : Result T E) (old : EnumValue) (d : List (List ℕ)) (cs new : List (Option ℕ)) (t : List ℕ) (k : ℕ) → enum_of d (decoded d cs) ≡ old
    → ArePlaces d cs → IsUtf8 t → position (bytes_eq t) old.categories ≡ Some k → OnOk r (new ≡ cs ++ Some k ∷ []) → OnErr r (new ≡ cs) → ArePlaces d new
places_after (Ok done) old d cs new t k is h u at ok err = places_value d cs new t k h u (ap (λ (v : EnumValue). position (bytes_eq t) v.categories) is ∙ at) ok
places_after (Err wrong) old d cs new t k is h u at ok err = subst (ArePlaces d) (sym err) h

pub text_after : {T E : Type 0} (r : Result T E) (old : EnumValue) (d : List (List ℕ)) (cs new : List (Option ℕ)) (t : List ℕ) (k : ℕ) → enum_of d (decoded d cs) ≡ old
    → position (bytes_eq t) old.categories ≡ Some k → OnOk r (new ≡ cs ++ Some k ∷ [])
    → OnOk r (enum_of d (decoded d new) ≡ enum_of old.categories (old.texts ++ Some t ∷ []))
text_after (Ok done) old d cs new t k is at ok =
    let here = ap (λ (v : EnumValue). position (bytes_eq t) v.categories) is ∙ at in
    let more = decoded-value d cs new (Some t) t k refl here ok in
    ap (enum_of d) more ∙ ap (λ (v : EnumValue). enum_of v.categories (v.texts ++ Some t ∷ [])) is
text_after (Err wrong) old d cs new t k is at ok = tt

-- ---- cells

-- the cell of a text, by whether it is UTF-8 and among the categories
abbrev cell_by : List ℕ → Bool → Bool → Cell
cell_by text valid among =
    if valid then (elim (option_map Letters (if among then Some text else None)) [ None ↦ Err fault.Value | Some value ↦ Ok (Some value) ]) else Err fault.Utf8

pub enum_some : (d : List (List ℕ)) (text t : List ℕ) (k : ℕ) → is_utf8 text ≡ true → t ≡ text → position (bytes_eq t) d ≡ Some k → category_cell (dtype.Enum (Some d)) text ≡ Ok (Some (Letters text))
enum_some d text t k u same at =
    let there : list_any (bytes_eq text) d ≡ true = known d text k (ap (λ (l : List ℕ). position (bytes_eq l) d) (sym same) ∙ at) in
    (λ j. cell_by text (u j) (there j))

pub enum_none : (d : List (List ℕ)) (text t : List ℕ) → is_utf8 text ≡ true → t ≡ text → position (bytes_eq t) d ≡ None → category_cell (dtype.Enum (Some d)) text ≡ Err fault.Value
enum_none d text t u same at =
    let absent : list_any (bytes_eq text) d ≡ false = none_passes (bytes_eq text) d (ap (λ (l : List ℕ). position (bytes_eq l) d) (sym same) ∙ at) in
    (λ j. cell_by text (u j) (absent j))
