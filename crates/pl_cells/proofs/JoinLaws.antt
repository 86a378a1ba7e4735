-- Laws of cells that are put behind others.
use Rattle.std.proofs.Common.{◌≡◌, ℕ, zero, suc, ◌<◌, ◌≤◌, false, List, [], ◌∷◌, ◌++◌, length, map, get_or, Option, None, Some, Result, Ok, Err, OnOk, OnErr, refl, sym, ◌∙◌, ap, subst, arith}
use Rattle.std.proofs.lemmas.List.{map-append}
use Rattle.pl_frame.specs.declared.data_type.DataType.{DataType}
use Rattle.pl_frame.specs.declared.data_type.DataType.TheVariants as dtype
use Rattle.pl_frame.specs.Categories.{code_of, decoded}
use Rattle.pl_frame.specs.ByteCount.{byte_count}
use Rattle.pl_frame.specs.Columns.{text_cells, text_in, misfits, HoldsType}
use Rattle.pl_frame.specs.Frame.{Scalar}
use Rattle.pl_frame.proofs.CellLaws.{text_in-cells}
use Rattle.pl_frame.proofs.ColumnLaws.{position-nowhere}
use Rattle.pl_cells.specs.declared.buffer.Buffer.{Buffer}
use Rattle.pl_cells.specs.declared.buffer.Buffer.TheVariants as buffer
use Rattle.pl_cells.specs.declared.utf8.CsvEncoding.{CsvEncoding}
use Rattle.pl_cells.specs.BufferValue.{BufferValue, with_more}
use Rattle.pl_cells.specs.EnumPlaces.{EnumValue, ArePlaces}
use Rattle.pl_cells.specs.InitBuffers.{state_of}
use Rattle.pl_cells.specs.Variants.{buffer_for}
use Rattle.pl_cells.proofs.BufferLaws.{record_of}
use Rattle.pl_cells.proofs.CutLaws.{fits_at}
use Rattle.pl_cells.proofs.EnumLaws.{enum_of}

-- ---- values of a type

each-append : (type : DataType) (xs ys : List (Option Scalar)) → ((k : ℕ) → k < length xs → misfits type (get_or xs k None) ≡ false) →
    ((k : ℕ) → k < length ys → misfits type (get_or ys k None) ≡ false) → (k : ℕ) → k < length (xs ++ ys) → misfits type (get_or (xs ++ ys) k None) ≡ false
each-append type [] ys a b k l = b k l
each-append type (x ∷ xs) ys a b zero l = a 0 (omega arith)
each-append type (x ∷ xs) ys a b (suc k) l = each-append type xs ys (λ i m. a (suc i) (omega arith)) b k (omega arith)

holds-append : (type : DataType) (xs ys : List (Option Scalar)) → HoldsType type xs → HoldsType type ys → HoldsType type (xs ++ ys)
holds-append type xs ys h k = position-nowhere (misfits type) (xs ++ ys) None (each-append type xs ys (fits_at type xs h) (fits_at type ys k))

-- what an append left, whatever it answered
pub holds-after : {V T E : Type 0} (r : Result T E) (type other_type : DataType) (f : Option V → Option Scalar) (old more new : List (Option V)) → HoldsType type (map f old) →
    HoldsType other_type (map f more) → type ≡ other_type → OnOk r (new ≡ old ++ more) → OnErr r (new ≡ old) → HoldsType type (map f new)
holds-after (Ok done) type other_type f old more new h k same ok err =
    subst (HoldsType type) (sym (map-append f old more) ∙ ap (map f) (sym ok)) (holds-append type (map f old) (map f more) h (subst (λ t. HoldsType t (map f more)) (sym same) k))
holds-after (Err wrong) type other_type f old more new h k same ok err = subst (λ xs. HoldsType type (map f xs)) (sym err) h

-- ---- texts

-- ---- places among categories

pub places-append : (categories : List (List ℕ)) (old more : List (Option ℕ)) → ArePlaces categories old → ArePlaces categories more → ArePlaces categories (old ++ more)
places-append categories old more h k = record {
  codes =
      ap (map (code_of categories)) (map-append _ old more) ∙ map-append (code_of categories) (decoded categories old) (decoded categories more)
      ∙ (λ j. h.codes j ++ k.codes j);
  held =
      subst (HoldsType (dtype.Enum (Some categories))) (sym (map-append _ (decoded categories old) (decoded categories more)) ∙ ap text_cells (sym (map-append _ old more)))
      (holds-append (dtype.Enum (Some categories)) (text_cells (decoded categories old)) (text_cells (decoded categories more)) h.held k.held);
}

pub places-joined : {T E : Type 0} (r : Result T E) (categories other_categories : List (List ℕ)) (old more new : List (Option ℕ)) → ArePlaces categories old → ArePlaces other_categories more →
    categories ≡ other_categories → OnOk r (new ≡ old ++ more) → OnErr r (new ≡ old) → ArePlaces categories new
places-joined (Ok done) categories other_categories old more new h k same ok err =
    subst (ArePlaces categories) (sym ok) (places-append categories old more h (subst (λ c. ArePlaces c more) (sym same) k))
places-joined (Err wrong) categories other_categories old more new h k same ok err = subst (ArePlaces categories) (sym err) h

pub texts-joined : {T E : Type 0} (r : Result T E) (old other : EnumValue) (categories other_categories : List (List ℕ)) (places more new : List (Option ℕ)) →
    enum_of categories (decoded categories places) ≡ old → enum_of other_categories (decoded other_categories more) ≡ other → categories ≡ other_categories → OnOk r (new ≡ places ++ more) →
    OnOk r (enum_of categories (decoded categories new) ≡ enum_of old.categories (old.texts ++ other.texts))
texts-joined (Ok done) old other categories other_categories places more new is also same ok =
    ap (enum_of categories)
    (ap (decoded categories) ok ∙ map-append _ places more ∙ ap (λ c. decoded categories places ++ decoded c more) same)
    ∙ (λ j. enum_of (is j).categories ((is j).texts ++ (also j).texts))
texts-joined (Err wrong) old other categories other_categories places more new is also same ok = tt

-- ---- variants

-- a buffer of the variant of another that holds this
abbrev pub like : Buffer → BufferValue → Buffer
like (buffer.Boolean b) value = buffer.Boolean value
like (buffer.Int8 b) value = buffer.Int8 value
like (buffer.Int16 b) value = buffer.Int16 value
like (buffer.Int32 b) value = buffer.Int32 value
like (buffer.Int64 b) value = buffer.Int64 value
like (buffer.Int128 b) value = buffer.Int128 value
like (buffer.UInt8 b) value = buffer.UInt8 value
like (buffer.UInt16 b) value = buffer.UInt16 value
like (buffer.UInt32 b) value = buffer.UInt32 value
like (buffer.UInt64 b) value = buffer.UInt64 value
like (buffer.String b) value = buffer.String value
like (buffer.Categorical b) value = buffer.Categorical value
like (buffer.Enum b) value = buffer.Enum value
like (buffer.Date b) value = buffer.Date value
like (buffer.Time b) value = buffer.Time value
like (buffer.Datetime b) value = buffer.Datetime value
like (buffer.Decimal b) value = buffer.Decimal value

like-same : (type : DataType) (value other : BufferValue) → buffer_for type other ≡ like (buffer_for type value) other
like-same dtype.Boolean value other = refl
like-same dtype.Int8 value other = refl
like-same dtype.Int16 value other = refl
like-same dtype.Int32 value other = refl
like-same dtype.Int64 value other = refl
like-same dtype.Int128 value other = refl
like-same dtype.UInt8 value other = refl
like-same dtype.UInt16 value other = refl
like-same dtype.UInt32 value other = refl
like-same dtype.UInt64 value other = refl
like-same dtype.String value other = refl
like-same dtype.Categorical value other = refl
like-same (dtype.Enum categories) value other = refl
like-same dtype.Date value other = refl
like-same dtype.Time value other = refl
like-same (dtype.Datetime unit) value other = refl
like-same (dtype.Decimal precision scale) value other = refl
like-same dtype.Null value other = refl

-- two buffers of a type are of one variant
pub alike : (a b : Buffer) → buffer_for (state_of a).dtype (state_of a) ≡ a → buffer_for (state_of b).dtype (state_of b) ≡ b → (state_of a).dtype ≡ (state_of b).dtype →
    b ≡ like a (state_of b)
alike a b is also same =
    sym also ∙ ap (λ type. buffer_for type (state_of b)) (sym same) ∙ like-same (state_of a).dtype (state_of a) (state_of b) ∙ ap (λ x. like x (state_of b)) is

-- a buffer of texts is of their variant
pub texts-alike : (b : Buffer) → buffer_for (state_of b).dtype (state_of b) ≡ b → (state_of b).dtype ≡ dtype.String → b ≡ buffer.String (state_of b)
texts-alike b is type = sym is ∙ ap (λ t. buffer_for t (state_of b)) type

-- texts have as many bytes as their cells
pub bytes-cells : (texts : List (Option (List ℕ))) (n : ℕ) → byte_count texts ≤ n → byte_count (map text_in (text_cells texts)) ≤ n
bytes-cells texts n h = subst (λ xs. byte_count xs ≤ n) (sym (text_in-cells texts)) h
