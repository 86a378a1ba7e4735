-- Cells that are cut back to their first.
use Rattle.std.proofs.Common.{◌≡◌, ℕ, ◌<◌, Bool, true, false, List, length, take, map, get_or, Option, None, Some, refl, sym, ◌∙◌, ap, subst, arith}
use Rattle.std.proofs.lemmas.List.{length-take, get_or-take, take-map}
use Rattle.std.proofs.lemmas.List.Folds.{list_any_at}
use Rattle.pl_frame.specs.declared.data_type.DataType.{DataType}
use Rattle.pl_frame.specs.declared.data_type.DataType.TheVariants as dtype
use Rattle.pl_frame.specs.Categories.{code_of, decoded}
use Rattle.pl_frame.specs.Columns.{text_cells, misfits, HoldsType}
use Rattle.pl_frame.specs.Frame.{Scalar}
use Rattle.pl_frame.proofs.ColumnLaws.{position-nowhere}
use Rattle.pl_frame.proofs.SchemaLaws.{none_passes}
use Rattle.pl_cells.specs.declared.utf8.CsvEncoding.{CsvEncoding}
use Rattle.pl_cells.specs.BufferValue.{BufferValue, cut_to}
use Rattle.pl_cells.specs.EnumPlaces.{EnumValue, ArePlaces}
use Rattle.pl_cells.proofs.BufferLaws.{record_of}
use Rattle.pl_cells.proofs.EnumLaws.{enum_of}

-- each value of a column fits its type
pub fits_at : (type : DataType) (xs : List (Option Scalar)) → HoldsType type xs → (k : ℕ) → k < length xs → misfits type (get_or xs k None) ≡ false
fits_at type xs held k l = by (misfits type (get_or xs k None)) refl
  where
    by : (b : Bool) → misfits type (get_or xs k None) ≡ b → misfits type (get_or xs k None) ≡ false
    by false e = e
    by true e = let seen = list_any_at (misfits type) xs k None l e in let unseen = none_passes (misfits type) xs held in absurd (cc)

holds-take : (type : DataType) (n : ℕ) (xs : List (Option Scalar)) → HoldsType type xs → HoldsType type (take n xs)
holds-take type n xs held =
    position-nowhere (misfits type) (take n xs) None
    (λ k l. let size = length-take n xs in
    let low : k < n = omega (arith, size, l) in
    let within : k < length xs = omega (arith, size, l) in
    ap (misfits type) (get_or-take n xs k None low) ∙ fits_at type xs held k within)

-- the values of a column that are kept in another form
pub holds_cut : {V : Type 0} (type : DataType) (f : Option V → Option Scalar) (n : ℕ) (old new : List (Option V)) → HoldsType type (map f old) → new ≡ take n old → HoldsType type (map f new)
holds_cut type f n old new held cut = subst (HoldsType type) (take-map f n old ∙ ap (map f) (sym cut)) (holds-take type n (map f old) held)

pub places_cut : (categories : List (List ℕ)) (n : ℕ) (old new : List (Option ℕ)) → ArePlaces categories old → new ≡ take n old → ArePlaces categories new
places_cut categories n old new places cut = subst (ArePlaces categories) (sym cut) first
  where
    first : ArePlaces categories (take n old)
    first = record {
      codes =
          ap (map (code_of categories)) (sym (take-map _ n old)) ∙ sym (take-map (code_of categories) n (decoded categories old)) ∙ ap (take n) places.codes;
      held =
          subst (HoldsType (dtype.Enum (Some categories))) (take-map _ n (decoded categories old) ∙ ap text_cells (take-map _ n old))
          (holds-take (dtype.Enum (Some categories)) n (text_cells (decoded categories old)) places.held);
    }

-- ---- views

pub cells_cut : (n : ℕ) (old new : List (Option (List ℕ))) → new ≡ take n old → text_cells new ≡ take n (text_cells old)
cells_cut n old new cut = ap text_cells cut ∙ sym (take-map _ n old)

pub texts_cut : (old : EnumValue) (categories : List (List ℕ)) (n : ℕ) (places new : List (Option ℕ)) → enum_of categories (decoded categories places) ≡ old → new ≡ take n places
    → enum_of categories (decoded categories new) ≡ enum_of old.categories (take n old.texts)
texts_cut old categories n places new is cut =
    ap (enum_of categories) (ap (decoded categories) cut ∙ sym (take-map _ n places)) ∙ ap (λ (v : EnumValue). enum_of v.categories (take n v.texts)) is

pub buffer_cut : {V : Type 0} (old : BufferValue) (name : List ℕ) (type : DataType) (quote : Option ℕ) (encoding : CsvEncoding) (f : Option V → Option Scalar) (n : ℕ) (values new : List (Option V))
    → record_of name type quote encoding (map f values) ≡ old → new ≡ take n values → record_of name type quote encoding (map f new) ≡ cut_to n old
buffer_cut old name type quote encoding f n values new is cut =
    ap (record_of name type quote encoding) (ap (map f) cut ∙ sym (take-map f n values)) ∙ ap (cut_to n) is
